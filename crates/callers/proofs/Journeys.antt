-- From a caller's view before a call to that after it, and what is the caller's own meanwhile.

-- VIEWS

use Rattle.callers.proofs.Common.{Bool, Entry, FaultMark, GoesOn, IsCalled, IsEntered, IsLater, IsTold, List, Option, Pairs, ReadsNone, Request, Service, StartsWith, View, [], ap, append_assoc, append_none, arith, caller_of, calls-append, calls_by, choose, entries-append, entries_of, eqb, false, inl, inr, leaves_callers, outcome_of, own_of, refl, replay, subst, sym, true, ℕ, ◌++◌, ◌+◌, ◌∙◌, ◌∷◌, ◌≡◌}

pub begins_through : {A : Type 0} (whole middle part : List A) → StartsWith whole middle → StartsWith middle part → StartsWith whole part
begins_through whole middle part s t = (t.0 ++ s.0, s.1 ∙ (ap (λ l. l ++ s.0) t.1 ∙ append_assoc part t.0 s.0))

pub seen_begins : {B : Type 0} (v w : View Entry B) → StartsWith w.seen v.seen → StartsWith (entries_of w.seen) (entries_of v.seen)
seen_begins v w s = (entries_of s.0, ap entries_of s.1 ∙ entries-append v.seen s.0)

-- the ranked turn alone
pub called : {B : Type 0} {v w : View Entry B} {call : Request} {mark : FaultMark} {r : ℕ} {own : Pairs} {before : List Entry} {e : Entry} → IsEntered v w call mark r own before e → IsCalled v w 1 call mark r before e
called {before = before} {e = e} i = record {
  number = i.on.number;
  weight = i.on.weight;
  left = i.on.turns_left;
  goes_on = i.goes_on;
  placed = ([], i.seen ∙ sym (append_none (before ++ e ∷ [])));
  rank = i.rank;
  by = i.by;
  call_is = i.call_is;
  mark_is = i.mark_is;
  calls = i.calls;
}

module _ {B : Type 0} where
  -- and a turn without rank after it
  pub called_then : (v u w : View Entry B) (turns : ℕ) (call : Request) (mark : FaultMark) (r : ℕ) (own : Pairs) (before : List Entry) (e : Entry) → IsCalled v u turns call mark r before e → IsLater u w own →
      IsCalled v w (turns + 1) call mark r before e
  called_then v u w turns call mark r own before e c l = record {
    number = l.on.number ∙ c.number;
    weight = l.on.weight ∙ c.weight;
    left = let a = l.on.turns_left in let b = c.left in omega arith;
    goes_on = c.goes_on;
    placed = begins_through (entries_of w.seen) (entries_of u.seen) (before ++ e ∷ []) (seen_begins u w l.on.prefix) c.placed;
    rank = c.rank;
    by = c.by;
    call_is = c.call_is;
    mark_is = c.mark_is;
    calls = l.calls ∙ c.calls;
  }

  -- a history that goes on after a turn without rank does so from before it
  pub goes_on_before : (v u : View Entry B) (own : Pairs) (h : List Entry) → IsLater v u own → GoesOn u h → GoesOn v h
  goes_on_before v u own h l on = record {
    since = begins_through h (entries_of u.seen) (entries_of v.seen) on.since (seen_begins v u l.on.prefix);
    calls = ap (λ n. calls_by caller_of n h) (sym l.on.number) ∙ (on.calls ∙ l.calls);
    signed = on.signed;
  }

  -- and one before it
  pub then_called : (v u w : View Entry B) (turns : ℕ) (call : Request) (mark : FaultMark) (r : ℕ) (own : Pairs) (before : List Entry) (e : Entry) → IsLater v u own → IsCalled u w turns call mark r before e →
      IsCalled v w (turns + 1) call mark r before e
  then_called v u w turns call mark r own before e l c = record {
    number = c.number ∙ l.on.number;
    weight = c.weight ∙ l.on.weight;
    left = let a = l.on.turns_left in let b = c.left in omega arith;
    goes_on = goes_on_before v u own before l c.goes_on;
    placed = c.placed;
    rank = c.rank;
    by = c.by ∙ l.on.number;
    call_is = c.call_is;
    mark_is = c.mark_is;
    calls = c.calls ∙ ap (λ l. l ++ e ∷ []) l.calls;
  }

-- WHAT IS A CALLER'S OWN

first_is : {A : Type 0} (x : A) (xs : List A) → x ∷ xs ≡ [] → ⊥
first_is x xs e = cc

not_by : (n : ℕ) (e : Entry) (es : List Entry) (b : Bool) → eqb e.caller n ≡ b → choose b e es ≡ [] → (n ≡ e.caller → ⊥) × (es ≡ [])
not_by n e es true is none = absurd (first_is e es none)
not_by n e es false is none = (λ same. clash (eqb e.caller n) is (subst (λ m. eqb e.caller m ≡ true) (sym same) (eqb_same e.caller)), none)
  where
    eqb_same : (k : ℕ) → eqb k k ≡ true
    eqb_same k = grind arith

    clash : (b : Bool) → b ≡ false → b ≡ true → ⊥
    clash b f t = cc

-- calls of others leave it
own_left : (n : ℕ) (service : Service) (h : List Entry) → calls_by caller_of n h ≡ [] → own_of (replay service h) n ≡ own_of service n
own_left n service [] none = refl
own_left n service (e ∷ h) none =
    let other = not_by n e (calls_by caller_of n h) (eqb e.caller n) refl none in
    own_left n (outcome_of service e).service h other.1 ∙ (leaves_callers service e.caller n e.call e.mark other.0).0

replay-append : (service : Service) (h more : List Entry) → replay service (h ++ more) ≡ replay (replay service h) more
replay-append service [] more = refl
replay-append service (e ∷ h) more = replay-append (outcome_of service e).service h more

no_more : {A : Type 0} (xs ys : List A) → xs ++ ys ≡ xs → ys ≡ []
no_more [] ys e = e
no_more (x ∷ xs) ys e = no_more xs ys (let f : x ∷ (xs ++ ys) ≡ x ∷ xs = e in cc)

-- a history that begins so and has no further call of the caller's
pub own_later : (n : ℕ) (start : Service) (whole part : List Entry) → StartsWith whole part → calls_by caller_of n whole ≡ calls_by caller_of n part → own_of (replay start whole) n ≡ own_of (replay start part) n
own_later n start whole part s same =
    let parts : calls_by caller_of n whole ≡ calls_by caller_of n part ++ calls_by caller_of n s.0 = ap (calls_by caller_of n) s.1 ∙ calls-append caller_of n part s.0 in
    ap (λ h. own_of (replay start h) n) s.1 ∙ (ap (λ (x : Service). own_of x n) (replay-append start part s.0)
    ∙ own_left n (replay start part) s.0 (no_more (calls_by caller_of n part) (calls_by caller_of n s.0) (sym parts ∙ same)))

-- WHAT IS TOLD

reads_front : (service : Service) (part more : List Entry) → ReadsNone service (part ++ more) → ReadsNone service part
reads_front service [] more none = tt
reads_front service (e ∷ part) more none = (none.0, reads_front (outcome_of service e).service part more none.1)

-- a beginning of what is told is told
pub told_front : (told : Option (List ℕ)) (start : Service) (whole part : List Entry) → StartsWith whole part → IsTold told start whole → IsTold told start part
told_front told start whole part s (inl tells) = inl tells
told_front told start whole part s (inr none) = inr (reads_front start part s.0 (subst (ReadsNone start) s.1 none))

-- in a history that goes on it is what it was
pub own_on : {B : Type 0} (v : View Entry B) (start : Service) (h : List Entry) → GoesOn v h → calls_by caller_of v.number (entries_of v.seen) ≡ v.calls → own_of (replay start h) v.number ≡ own_of (replay start (entries_of v.seen)) v.number
own_on v start h on own = own_later v.number start h (entries_of v.seen) on.since (on.calls ∙ sym own)

module _ {B : Type 0} (v w : View Entry B) (turns : ℕ) (call : Request) (mark : FaultMark) (r : ℕ) (before : List Entry) (e : Entry) (c : IsCalled v w turns call mark r before e) (start : Service) where
  one_call : calls_by caller_of v.number (before ++ e ∷ []) ≡ v.calls ++ e ∷ []
  one_call = calls-append caller_of v.number before (e ∷ []) ∙ (ap (λ l. l ++ calls_by caller_of v.number (e ∷ [])) c.goes_on.calls ∙ ap (λ b. v.calls ++ choose b e []) (same_caller e.caller v.number c.by))
    where
      same_caller : (a b : ℕ) → a ≡ b → eqb a b ≡ true
      same_caller a b e = grind (arith, e)

  -- and after the call what the entry leaves
  pub own_after : calls_by caller_of w.number (entries_of w.seen) ≡ w.calls → own_of (replay start (entries_of w.seen)) w.number ≡ own_of (outcome_of (replay start before) e).service w.number
  own_after own =
      ap (own_of (replay start (entries_of w.seen))) c.number
      ∙ (own_later v.number start (entries_of w.seen) (before ++ e ∷ []) c.placed (ap (λ n. calls_by caller_of n (entries_of w.seen)) (sym c.number) ∙ (own ∙ (c.calls ∙ sym one_call)))
      ∙ (ap (λ (s : Service). own_of s v.number) (replay-append start before (e ∷ [])) ∙ ap (own_of (outcome_of (replay start before) e).service) (sym c.number)))
