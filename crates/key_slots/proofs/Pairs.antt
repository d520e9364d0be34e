-- How often the holdings name a slot.

-- how many pairs name a slot with the second number n: f where it waits for its key, and r readers of the key number c
use Rattle.key_slots.proofs.Common.{[], arith, Bool, cond, eqb, false, Gains, List, named, nat_tests, Pairs, refl, replicate, same, suc, true, zero, ℕ, ◌+◌, ◌-◌, ◌<◌, ◌≡◌, ◌≢◌}

abbrev pub counted : (f : Bool) (c r n : ℕ) → ℕ
counted f c r n = cond (eqb n 0) (cond f 1 0) (cond (eqb n (c + 1)) r 0)

-- a pair of another slot
pub elsewhere : (all more : List Pairs) (i k : ℕ) → Gains all more (i, k) → (j n : ℕ) → j ≢ i → named j n more ≡ named j n all
elsewhere all more i k gains j n other = let e = gains j n in grind (arith, nat_tests)

pub same_here : (i n : ℕ) → same i n (i, n) ≡ 1
same_here i n = grind (arith, nat_tests)

-- a pair that is given back was out
pub was_out : (all less : List Pairs) (i n : ℕ) → Gains less all (i, n) → 0 < named i n all
was_out all less i n gains = let e = gains i n in let one = same_here i n in omega arith

pub nothing_out : (callers i n : ℕ) → named i n (replicate callers []) ≡ 0
nothing_out zero i n = refl
nothing_out (suc callers) i n = let r = nothing_out callers i n in omega arith

-- the pair of a lease is one reader more
pub one_more : (f : Bool) (i c r n : ℕ) → counted f c r n + same i n (i, c + 1) ≡ counted f c (r + 1) n
one_more f i c r n = grind (arith, nat_tests)

-- without the pair of a lease there is one reader less
pub one_less : (f : Bool) (i c r n t : ℕ) → counted f c r n ≡ t + same i n (i, c + 1) → t ≡ counted f c (r - 1) n
one_less f i c r n t e = grind (arith, nat_tests)

-- a slot that nobody reads and that waits for no key
pub nobody : (c n : ℕ) → counted false c 0 n ≡ 0
nobody c n = grind (arith, nat_tests)

-- the pair of a filling
pub one_filling : (i n : ℕ) → same i n (i, 0) ≡ counted true 0 0 n
one_filling i n = grind (arith, nat_tests)

-- without the pair of a filling nothing is out
pub no_filling : (i n t : ℕ) → counted true 0 0 n ≡ t + same i n (i, 0) → t ≡ 0
no_filling i n t e = grind (arith, nat_tests)

-- a lease that is out is of the slot's key, and the slot has a reader
pub is_lease : (f : Bool) (c r k : ℕ) → 0 < counted f c r (k + 1) → (k ≡ c) × (0 < r)
is_lease f c r k out = (grind (arith, nat_tests), grind (arith, nat_tests))

-- a filling that is out is of a slot that waits for its key
pub is_fill : (f : Bool) (c r : ℕ) → 0 < counted f c r 0 → f ≡ true
is_fill true c r out = refl
is_fill false c r out = absurd (omega arith)
