-- One handle of four is another, with its operation and its lease.
use Rattle.callers.proofs.Common.{AreOperations, ArePairs, Bool, HandleOperation, Inactive, IsOperation, List, None, OperationHandle, Pairs, Reading, Some, [], ap, arith, busy, cond, count_by, eqb, eqb_tells, false, get_or, get_or-set_other, get_or-set_same, inl, inr, is_active, is_inactive, lease_pair, leases_of, length, length-set, names, nat_tests, not, pairs_of, refl, same, set, subst, suc, sum_by-append, sum_by-cons, sym, true, without_pair, zero, ℕ, ◌&&◌, ◌++◌, ◌+◌, ◌<◌, ◌==◌, ◌∙◌, ◌∷◌, ◌≡◌, ◌≢◌, ◌≤◌}

-- OPERATIONS

pub put_cell : (cells : List OperationHandle) (operations : List HandleOperation) (i : ℕ) (next : OperationHandle) (operation : HandleOperation) → AreOperations cells operations → i < 4 → IsOperation next operation →
    (is_active operation ≡ false → next.lease ≡ None) → AreOperations (set cells i next) (set operations i operation)
put_cell cells operations i next operation are lt stands over = record {
  cells_are = length-set cells i next ∙ are.cells_are;
  count = length-set operations i operation ∙ are.count;
  each = λ j c jt at. elim (eqb_tells j i) [
    | inl e ↦ put (λ (x : OperationHandle) (o : HandleOperation). IsOperation x o) j c e.1 at stands
    | inr e ↦ kept (λ (x : OperationHandle) (o : HandleOperation). IsOperation x o) j c e.1 at (λ here. are.each j c jt here)
  ];
  over = λ j c jt at. elim (eqb_tells j i) [
    | inl e ↦ put (λ (x : OperationHandle) (o : HandleOperation). is_active o ≡ false → x.lease ≡ None) j c e.1 at over
    | inr e ↦ kept (λ (x : OperationHandle) (o : HandleOperation). is_active o ≡ false → x.lease ≡ None) j c e.1 at (λ here. are.over j c jt here)
  ];
}
  where
    inside : i < length cells
    inside = let z = are.cells_are in omega arith

    within : i < length operations
    within = let z = are.count in omega arith

    put : (P : OperationHandle → HandleOperation → Type 0) (j : ℕ) (c : OperationHandle) → j ≡ i → c ≡ get_or (set cells i next) j c → P next operation → P c (get_or (set operations i operation) j Inactive)
    put P j c e at p =
        let is : next ≡ c = sym (at ∙ (ap (λ k. get_or (set cells i next) k c) e ∙ get_or-set_same cells i next c inside)) in
        let of : operation ≡ get_or (set operations i operation) j Inactive = sym (ap (λ k. get_or (set operations i operation) k Inactive) e ∙ get_or-set_same operations i operation Inactive within) in
        subst (λ o. P c o) of (subst (λ x. P x operation) is p)

    kept : (P : OperationHandle → HandleOperation → Type 0) (j : ℕ) (c : OperationHandle) → j ≢ i → c ≡ get_or (set cells i next) j c → (c ≡ get_or cells j c → P c (get_or operations j Inactive)) → P c (get_or (set operations i operation) j Inactive)
    kept P j c other at p =
        subst (λ o. P c o) (sym (get_or-set_other operations i j operation Inactive other)) (p (at ∙ get_or-set_other cells i j next c other))

abbrev pub once : Bool → ℕ
once b = cond b 1 0

pub few : (b : Bool) → once b ≤ 1
few true = omega arith
few false = omega arith

pub busy_put : (operations : List HandleOperation) (i : ℕ) (operation : HandleOperation) → i < length operations →
    busy (set operations i operation) + once (not (is_inactive (get_or operations i Inactive))) ≡ busy operations + once (not (is_inactive operation))
busy_put [] i operation lt = absurd (omega arith)
busy_put (o ∷ os) zero operation lt =
    let a = sum_by-cons (λ (x : HandleOperation). once (not (is_inactive x))) operation os in let b = sum_by-cons (λ (x : HandleOperation). once (not (is_inactive x))) o os in omega arith
busy_put (o ∷ os) (suc i) operation lt =
    let a = sum_by-cons (λ (x : HandleOperation). once (not (is_inactive x))) o (set os i operation) in let b = sum_by-cons (λ (x : HandleOperation). once (not (is_inactive x))) o os in
    let r = busy_put os i operation (omega arith) in omega arith

pub cell_at : (cells : List OperationHandle) (i : ℕ) → i < length cells → (c : OperationHandle) × (c ≡ get_or cells i c)
cell_at [] i lt = absurd (omega arith)
cell_at (x ∷ xs) zero lt = (x, refl)
cell_at (x ∷ xs) (suc i) lt = cell_at xs i (omega arith)

-- LEASES

module _ (f : ℕ × ℕ → Bool) where
  abbrev tally : Pairs → ℕ
  tally own = count_by f own

  pub tally-append : (xs ys : Pairs) → tally (xs ++ ys) ≡ tally xs + tally ys
  tally-append xs ys = sum_by-append (λ (p : ℕ × ℕ). once (f p)) xs ys

  pub tally-cons : (p : ℕ × ℕ) (own : Pairs) → tally (p ∷ own) ≡ once (f p) + tally own
  tally-cons p own = sum_by-cons (λ (x : ℕ × ℕ). once (f x)) p own

  pub leases_put : (cells : List OperationHandle) (i : ℕ) (c next : OperationHandle) → i < length cells → c ≡ get_or cells i c → tally (leases_of (set cells i next)) + tally (pairs_of c.lease) ≡ tally (leases_of cells) + tally (pairs_of next.lease)
  leases_put [] i c next lt at = absurd (omega arith)
  leases_put (x ∷ xs) zero c next lt at =
      let a = tally-append (pairs_of next.lease) (leases_of xs) in let b = tally-append (pairs_of x.lease) (leases_of xs) in let e = ap (λ (y : OperationHandle). tally (pairs_of y.lease)) at in omega arith
  leases_put (x ∷ xs) (suc i) c next lt at =
      let a = tally-append (pairs_of x.lease) (leases_of (set xs i next)) in let b = tally-append (pairs_of x.lease) (leases_of xs) in let r = leases_put xs i c next (omega arith) at in omega arith

same_pair : (p q : ℕ × ℕ) → (eqb p.0 q.0 && eqb p.1 q.1) ≡ true → q ≡ p
same_pair p q e = let a : q.0 ≡ p.0 = grind (arith, nat_tests) in let b : q.1 ≡ p.1 = grind (arith, nat_tests) in λ i. (a i, b i)

-- a pair that is there is taken out once
apart : (p q : ℕ × ℕ) (b c : Bool) → eqb p.0 q.0 ≡ b → eqb p.1 q.1 ≡ c → (b && c) ≡ false → same p.0 p.1 q ≡ 0
apart p q true true a d e = cc
apart p q true false a d e = grind (arith, nat_tests)
apart p q false c a d e = grind (arith, nat_tests)

without_first : (f : ℕ × ℕ → Bool) (p q : ℕ × ℕ) (qs : Pairs) (b : Bool) → (eqb p.0 q.0 && eqb p.1 q.1) ≡ b → 0 < names p.0 p.1 (q ∷ qs) → (0 < names p.0 p.1 qs → count_by f (without_pair p qs) + once (f p) ≡ count_by f qs) →
    count_by f (cond b qs (q ∷ without_pair p qs)) + once (f p) ≡ count_by f (q ∷ qs)
without_first f p q qs true e some rest = let same = ap (λ x. once (f x)) (same_pair p q e) in let m = tally-cons f q qs in omega arith
without_first f p q qs false e some rest =
    let none = apart p q (eqb p.0 q.0) (eqb p.1 q.1) refl refl e in let r = rest (omega arith) in
    let m = tally-cons f q qs in let n = tally-cons f q (without_pair p qs) in omega arith

pub without : (f : ℕ × ℕ → Bool) (p : ℕ × ℕ) (own : Pairs) → 0 < names p.0 p.1 own → count_by f (without_pair p own) + once (f p) ≡ count_by f own
without f p [] some = absurd (omega arith)
without f p (q ∷ qs) some = without_first f p q qs (eqb p.0 q.0 && eqb p.1 q.1) refl some (λ more. without f p qs more)

-- how often a pair is named is a tally
pub names_is : (i k : ℕ) (own : Pairs) → names i k own ≡ count_by (λ p. p.0 == i && p.1 == k) own
names_is i k [] = refl
names_is i k (p ∷ ps) = let m = tally-cons (λ q. q.0 == i && q.1 == k) p ps in let r = names_is i k ps in let s = one (p.0 == i) (p.1 == k) in omega arith
  where
    one : (b c : Bool) → cond b (cond c 1 0) 0 ≡ once (b && c)
    one true c = refl
    one false c = refl

-- so that a lease of a handle is out of the store
pub named_alike : (own other : Pairs) (i k : ℕ) → ArePairs own other → names i k own ≡ names i k other
named_alike own other i k are = names_is i k own ∙ (are (λ p. p.0 == i && p.1 == k) ∙ sym (names_is i k other))

names-append : (i k : ℕ) (xs ys : Pairs) → names i k (xs ++ ys) ≡ names i k xs + names i k ys
names-append i k [] ys = omega arith
names-append i k (x ∷ xs) ys = let r = names-append i k xs ys in omega arith

-- a pair is the first of those that begin with it
pub first_named : (p : ℕ × ℕ) (own : Pairs) → 0 < names p.0 p.1 (p ∷ own)
first_named p own = let one : same p.0 p.1 p ≡ 1 = here p.0 p.1 in omega arith
  where
    here : (i k : ℕ) → same i k (i, k) ≡ 1
    here i k = grind (arith, nat_tests)

pub names_lease : (cells : List OperationHandle) (j : ℕ) (c : OperationHandle) (lease : Reading) → j < length cells → c ≡ get_or cells j c → c.lease ≡ Some lease → 0 < names lease.slot (lease.creation + 1) (leases_of cells)
names_lease [] j c lease lt at is = absurd (omega arith)
names_lease (x ∷ xs) zero c lease lt at is =
    let a = names-append lease.slot (lease.creation + 1) (pairs_of x.lease) (leases_of xs) in
    let e = ap (λ o. names lease.slot (lease.creation + 1) (pairs_of o)) (ap (λ (y : OperationHandle). y.lease) (sym at) ∙ is) in
    let one = first_named (lease_pair lease) [] in omega arith
names_lease (x ∷ xs) (suc j) c lease lt at is =
    let a = names-append lease.slot (lease.creation + 1) (pairs_of x.lease) (leases_of xs) in let r = names_lease xs j c lease (omega arith) at is in omega arith
