-- Reply lines that say the status of a failed device: no more than there are marks.
use Rattle.std.proofs.Common.{Bool, List, Option, [], ap, arith, cond, count_by, eqb, false, leb, map, suc, sum_by, true, zero, ℕ, ◌+◌, ◌∷◌, ◌≡◌, ◌≤◌}
use Rattle.session_host.proofs.Common.{DataCorrupt, Entry, failure_marked, failure_of, failures_marked, failures_of, failures_to, HardwareFailure, is_failure, LinesAreBounded, nat_tests, of_calls, ReplyLine, Status, StorageFailure, sum_by-append, sum_by-cons}

-- an amount that counts for the sessions to n + 1 counts for those to n, or for n + 1
split : (caller n amount : ℕ) → cond (leb caller (suc n)) amount 0 ≡ cond (leb caller n) amount 0 + cond (eqb caller (suc n)) amount 0
split caller n amount = grind (arith, nat_tests)

at_most : (b : Bool) (amount : ℕ) → cond b amount 0 ≤ amount
at_most true amount = omega arith
at_most false amount = omega arith

module _ (status : Status) where
  abbrev is_said : Option Status → Bool
  is_said = is_failure status

  abbrev once : Bool → ℕ
  once b = cond b 1 0

  one : Entry → ℕ
  one e = once (is_said (failure_marked e.mark))

  -- how many entries of the sessions to n have such a mark
  abbrev upto : ℕ → List Entry → ℕ
  upto n h = sum_by (λ e. cond (leb e.caller n) (one e) 0) h

  own_more : (b : Bool) (f : Option Status) (fs : List (Option Status)) → count_by is_said (cond b (f ∷ fs) fs) ≡ cond b (once (is_said f)) 0 + count_by is_said fs
  own_more true f fs = sum_by-cons (λ f. once (is_said f)) f fs
  own_more false f fs = omega arith

  next : (n rank : ℕ) (h : List Entry) → upto (suc n) h ≡ upto n h + count_by is_said (of_calls (λ r e. failure_marked e.mark) (suc n) rank h)
  unfolding one
  next n rank [] = omega arith
  next n rank (e ∷ h) =
      let all = sum_by-cons (λ (e : Entry). cond (leb e.caller (suc n)) (one e) 0) e h in
      let before = sum_by-cons (λ (e : Entry). cond (leb e.caller n) (one e) 0) e h in
      let own = own_more (eqb e.caller (suc n)) (failure_marked e.mark) (of_calls (λ r e. failure_marked e.mark) (suc n) (rank + 1) h) in
      let here = split e.caller n (one e) in
      let later = next n (rank + 1) h in omega (arith, all, before, own, here, later)

  upto_all : (n : ℕ) (h : List Entry) → upto n h ≤ count_by is_said (failures_marked h)
  unfolding one
  upto_all n [] = omega arith
  upto_all n (e ∷ h) =
      let a = sum_by-cons (λ (e : Entry). cond (leb e.caller n) (one e) 0) e h in let b = sum_by-cons (λ f. once (is_said f)) (failure_marked e.mark) (failures_marked h) in
      let here = at_most (leb e.caller n) (one e) in let later = upto_all n h in omega (arith, a, b, here, later)

  sessions_say : (n : ℕ) (h : List Entry) → count_by is_said (failures_to n h) ≤ upto n h
  sessions_say zero h = omega arith
  sessions_say (suc n) h =
      let both = sum_by-append (λ f. once (is_said f)) (failures_to n h) (failures_of (suc n) h) in
      let more = next n 0 h in let fewer = sessions_say n h in omega (arith, both, more, fewer)

  -- of sessions 1 to n no more lines say so than there are such marks
  few_lines : (h : List Entry) (n : ℕ) (replies : List ReplyLine) → map failure_of replies ≡ failures_to n h → count_by is_said (map failure_of replies) ≤ count_by is_said (failures_marked h)
  few_lines h n replies tell = let a = ap (count_by is_said) tell in let b = sessions_say n h in let c = upto_all n h in omega (arith, a, b, c)

pub bounded_lines : LinesAreBounded
bounded_lines tells before after h n replies bounded tell = record {
  storage = λ below. let a = bounded.storage below in let b = few_lines StorageFailure h n replies tell in omega (arith, a, b);
  hardware = λ below. let a = bounded.hardware below in let b = few_lines HardwareFailure h n replies tell in omega (arith, a, b);
  corrupt = λ is. let a = bounded.corrupt is in let b = few_lines DataCorrupt h n replies tell in omega (arith, a, b);
}
