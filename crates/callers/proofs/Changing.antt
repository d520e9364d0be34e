-- A handle's operation becomes another one, and its lease is kept or handed out.
use Rattle.callers.proofs.Common.{AreOperations, ArePairs, Bool, HandleOperation, HoldsLease, IsChanged, IsOperation, List, None, OperationHandle, Option, Pairs, Reading, Some, [], ap, arith, cond, count_by, false, false≢true, get_or, inl, inr, is_active, lease_pair, leases_of, length, length-append, pairs_of, refl, set, sum_by-append, sym, true, ℕ, ⊎_elim, ◌++◌, ◌+◌, ◌-◌, ◌<◌, ◌∙◌, ◌∷◌, ◌≡◌, ◌⊎◌}
use Rattle.callers.proofs.HandleLists.{leases_put, names_lease, put_cell, tally-cons}

-- the pairs of two leases, of which one is this one and the other none
abbrev Halves : (given kept whole : Option Reading) → Type 0
Halves given kept whole = ((given ≡ None) × (kept ≡ whole)) ⊎ ((given ≡ whole) × (kept ≡ None))

halves_count : (f : ℕ × ℕ → Bool) (given kept whole : Option Reading) → Halves given kept whole → count_by f (pairs_of given) + count_by f (pairs_of kept) ≡ count_by f (pairs_of whole)
halves_count f given kept whole (inl h) = let a = ap (λ o. count_by f (pairs_of o)) h.0 in let b = ap (λ o. count_by f (pairs_of o)) h.1 in omega arith
halves_count f given kept whole (inr h) = let a = ap (λ o. count_by f (pairs_of o)) h.0 in let b = ap (λ o. count_by f (pairs_of o)) h.1 in omega arith

count_all : (own : Pairs) → count_by (λ p. true) own ≡ length own
count_all [] = refl
count_all (p ∷ ps) = let m = tally-cons (λ q. true) p ps in let r = count_all ps in omega arith

pub length_alike : (one other : Pairs) → ArePairs one other → length one ≡ length other
length_alike one other are = sym (count_all one) ∙ (are (λ p. true) ∙ count_all other)

module _ (old : List OperationHandle) (operations : List HandleOperation) (handle : ℕ) (cell next : OperationHandle) (operation : HandleOperation) (lease : Option Reading)
    (are : AreOperations old operations) (inside : handle - 1 < 4) (at : cell ≡ get_or old (handle - 1) cell) where
  within : handle - 1 < length old
  within = let z = are.cells_are in omega arith

  by_halves : IsOperation next operation → (is_active operation ≡ false → next.lease ≡ None) → Halves lease next.lease cell.lease → IsChanged old (set old (handle - 1) next) operations handle operation lease
  by_halves stands over halves =
      let pairs : ArePairs (pairs_of lease ++ leases_of (set old (handle - 1) next)) (leases_of old) = λ f.
      let a = sum_by-append (λ (p : ℕ × ℕ). cond (f p) 1 0) (pairs_of lease) (leases_of (set old (handle - 1) next)) in
      let b = leases_put f old (handle - 1) cell next within at in let c = halves_count f lease next.lease cell.lease halves in omega arith in
      record {
        stand = put_cell old operations (handle - 1) next operation are inside stands over;
        leases = pairs;
        fewer = let a = length_alike (pairs_of lease ++ leases_of (set old (handle - 1) next)) (leases_of old) pairs in let b = length-append (pairs_of lease) (leases_of (set old (handle - 1) next)) in omega arith;
        mine = λ l is. names_lease old (handle - 1) cell l within at (⊎_elim (λ (h : (lease ≡ None) × (next.lease ≡ cell.lease)). absurd (clash l (sym is ∙ h.0))) (λ h. sym h.0 ∙ is) halves);
      }
    where
      clash : (l : Reading) → Some l ≡ None → ⊥
      clash l e = cc

  -- by a step, after which one that is over hands its lease out
  pub stepped : (mid : OperationHandle) → mid.lease ≡ cell.lease → IsOperation next operation → (is_active operation ≡ true → (lease ≡ None) × (next ≡ mid)) → (is_active operation ≡ false → (lease ≡ mid.lease) × (next.lease ≡ None)) →
      IsChanged old (set old (handle - 1) next) operations handle operation lease
  stepped mid same stands active over = by_halves stands (λ e. (over e).1) (of (is_active operation) refl)
    where
      of : (b : Bool) → is_active operation ≡ b → Halves lease next.lease cell.lease
      of true e = inl ((active e).0, ap (λ (c : OperationHandle). c.lease) (active e).1 ∙ same)
      of false e = inr ((over e).0 ∙ same, (over e).1)

  -- by a wipe
  pub wiped : lease ≡ cell.lease → next.lease ≡ None → IsOperation next operation → IsChanged old (set old (handle - 1) next) operations handle operation lease
  wiped given none stands = by_halves stands (λ e. none) (inr (given, none))

  -- by a change of a handle that keeps what lease it has
  pub same_lease : next.lease ≡ cell.lease → lease ≡ None → IsOperation next operation → (is_active operation ≡ false → next.lease ≡ None) → IsChanged old (set old (handle - 1) next) operations handle operation lease
  same_lease same none stands over = by_halves stands over (inl (none, same))

-- a handle without a lease is given one
pub kept : (old : List OperationHandle) (operations : List HandleOperation) (handle : ℕ) (cell next : OperationHandle) (operation : HandleOperation) (lease : Reading) → AreOperations old operations → handle - 1 < 4 → cell ≡ get_or old (handle - 1) cell →
    cell.lease ≡ None → next.lease ≡ Some lease → IsOperation next operation → is_active operation ≡ true → HoldsLease old (set old (handle - 1) next) operations handle operation lease
kept old operations handle cell next operation lease are inside at none given stands active =
    let within : handle - 1 < length old = let z = are.cells_are in omega arith in
    let pairs : ArePairs (leases_of (set old (handle - 1) next)) (lease_pair lease ∷ leases_of old) = λ f.
    let a = leases_put f old (handle - 1) cell next within at in let b = ap (λ o. count_by f (pairs_of o)) none in let c = ap (λ o. count_by f (pairs_of o)) given in
    let d = tally-cons f (lease_pair lease) (leases_of old) in let e = tally-cons f (lease_pair lease) [] in omega arith in
    record {
      stand = put_cell old operations (handle - 1) next operation are inside stands (λ over. absurd (false≢true (sym over ∙ active)));
      leases = pairs;
      more = let l = length_alike (leases_of (set old (handle - 1) next)) (lease_pair lease ∷ leases_of old) pairs in omega arith;
    }
