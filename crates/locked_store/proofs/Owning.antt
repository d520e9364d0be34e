-- What one caller has out, among what all have.
use Rattle.locked_store.proofs.Common.{AreHoldings, Bool, Gains, HasNoFilling, HasRoomForLease, IsHolding, List, Pairs, [], ap, arith, cond, count_by, eqb, false, get_or, get_or-set_same, held_by, length, length-set, named, names, nat_lt, refl, same, set, subst, suc, true, with_held_by, without_pair, zero, ℕ, ◌&&◌, ◌+◌, ◌-◌, ◌<◌, ◌==◌, ◌∙◌, ◌∷◌, ◌≡◌, ◌≤◌}
use Rattle.std.proofs.{lemmas.Bool.Decides.nat_tests, lemmas.List.Elements.All-get_or, lemmas.List.Elements.All-set, lemmas.List.Sums.sum_by-cons}

named_set : (i n j : ℕ) (all : List Pairs) (own : Pairs) → j < length all → named i n (set all j own) + names i n (get_or all j []) ≡ named i n all + names i n own
named_set i n j [] own lt = absurd (omega arith)
named_set i n zero (x ∷ xs) own lt = omega arith
named_set i n (suc j) (x ∷ xs) own lt = let r = named_set i n j xs own (omega arith) in omega arith

module _ (all : List Pairs) (n : ℕ) (own : Pairs) (first : 1 ≤ n) (inside : n ≤ length all) (is : held_by all n ≡ own) where
  within : n - 1 < length all
  within = omega arith

  -- one more pair
  pub gains : (p : ℕ × ℕ) → Gains all (with_held_by all n (p ∷ own)) p
  gains p i k = let r = named_set i k (n - 1) all (p ∷ own) within in let e = ap (names i k) is in omega arith

  -- and one less
  pub loses : (p : ℕ × ℕ) → ((i k : ℕ) → names i k own ≡ names i k (without_pair p own) + same i k p) → Gains (with_held_by all n (without_pair p own)) all p
  loses p splits i k = let r = named_set i k (n - 1) all (without_pair p own) within in let e = ap (names i k) is in let s = splits i k in omega arith

-- what the caller n may have, where it has it
pub holding_of : (all : List Pairs) (n : ℕ) (own : Pairs) → 1 ≤ n → n ≤ length all → AreHoldings (with_held_by all n own) → IsHolding own
holding_of all n own first inside are = let lt : n - 1 < length all = omega arith in
    subst IsHolding (get_or-set_same all (n - 1) own [] lt) (All-get_or IsHolding (set all (n - 1) own) (n - 1) [] (let z = length-set all (n - 1) own in omega arith) are.each)

pub with_holding : (all : List Pairs) (n : ℕ) (own : Pairs) → IsHolding own → AreHoldings all → AreHoldings (with_held_by all n own)
with_holding all n own holding are = record { callers = let z = length-set all (n - 1) own in let y = are.callers in omega arith; each = All-set IsHolding all (n - 1) own holding are.each }

one_pair : (i k : ℕ) (p q : ℕ × ℕ) → eqb p.0 q.0 ≡ true → eqb p.1 q.1 ≡ true → same i k q ≡ same i k p
one_pair i k p q a b = grind (arith, nat_tests)

-- a pair that a caller has is taken out once
pub splits : (p : ℕ × ℕ) (own : Pairs) → 0 < names p.0 p.1 own → (i k : ℕ) → names i k own ≡ names i k (without_pair p own) + same i k p
splits p [] some i k = absurd (omega arith)
splits p (q ∷ qs) some i k = go (λ more. splits p qs more i k) (eqb p.0 q.0) (eqb p.1 q.1) refl refl where
  go : (0 < names p.0 p.1 qs → names i k qs ≡ names i k (without_pair p qs) + same i k p) → (a b : Bool) → eqb p.0 q.0 ≡ a → eqb p.1 q.1 ≡ b →
      names i k (q ∷ qs) ≡ names i k (cond (a && b) qs (q ∷ without_pair p qs)) + same i k p
  go rest true true a b = let s = one_pair i k p q a b in omega arith
  go rest true false a b = let other : same p.0 p.1 q ≡ 0 = grind (arith, nat_tests) in let r = rest (omega arith) in omega arith
  go rest false b a c = let other : same p.0 p.1 q ≡ 0 = grind (arith, nat_tests) in let r = rest (omega arith) in omega arith

fewer_count : (f : ℕ × ℕ → Bool) (p : ℕ × ℕ) (own : Pairs) → count_by f (without_pair p own) ≤ count_by f own
fewer_count f p [] = omega arith
fewer_count f p (q ∷ qs) = go (fewer_count f p qs) (eqb p.0 q.0 && eqb p.1 q.1) where
  more : (own : Pairs) → count_by f (q ∷ own) ≡ cond (f q) 1 0 + count_by f own
  more own = sum_by-cons (λ (x : ℕ × ℕ). cond (f x) 1 0) q own

  go : count_by f (without_pair p qs) ≤ count_by f qs → (b : Bool) → count_by f (cond b qs (q ∷ without_pair p qs)) ≤ count_by f (q ∷ qs)
  go rest true = let m = more qs in omega arith
  go rest false = let m = more qs in let n = more (without_pair p qs) in omega arith

pub fewer : (p : ℕ × ℕ) (own : Pairs) → IsHolding own → IsHolding (without_pair p own)
fewer p own h = record {
  leases = let r = fewer_count (λ q. nat_lt 0 q.1) p own in let s = h.leases in omega arith;
  fillings = let r = fewer_count (λ q. q.1 == 0) p own in let s = h.fillings in omega arith;
}

counted : (f : ℕ × ℕ → Bool) (b : Bool) (q : ℕ × ℕ) (own : Pairs) → f q ≡ b → count_by f (q ∷ own) ≡ cond b 1 0 + count_by f own
counted f b q own is = sum_by-cons (λ (x : ℕ × ℕ). cond (f x) 1 0) q own ∙ ap (λ (t : Bool). cond t 1 0 + count_by f own) is

pub one_lease_more : (slot creation : ℕ) (own : Pairs) → HasRoomForLease own → IsHolding own → IsHolding ((slot, creation + 1) ∷ own)
one_lease_more slot creation own room h = record {
  leases = let c = counted (λ q. nat_lt 0 q.1) true (slot, creation + 1) own (grind (arith, nat_tests)) in omega arith;
  fillings = let c = counted (λ q. q.1 == 0) false (slot, creation + 1) own (grind (arith, nat_tests)) in let s = h.fillings in omega arith;
}

pub one_filling_more : (slot : ℕ) (own : Pairs) → HasNoFilling own → IsHolding own → IsHolding ((slot, 0) ∷ own)
one_filling_more slot own none h = record {
  leases = let c = counted (λ q. nat_lt 0 q.1) false (slot, 0) own refl in let s = h.leases in omega arith;
  fillings = let c = counted (λ q. q.1 == 0) true (slot, 0) own refl in omega arith;
}
