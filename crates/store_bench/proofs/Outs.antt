-- What callers have out of a store, with one pair more or less.
use Rattle.std.proofs.{Common.Bool, Common.List, Common.[], Common.ap, Common.arith, Common.cond, Common.count_by, Common.false, Common.nat_lt, Common.refl, Common.replicate, Common.true, Common.ℕ, Common.◌+◌, Common.◌<◌, Common.◌==◌, Common.◌∙◌, Common.◌∷◌, Common.◌≡◌, Common.◌≤◌, lemmas.Bool.Decides.nat_tests, lemmas.List.Sums.sum_by-cons}
use Rattle.std.proofs.lemmas.List.Elements.{All-cons, All-replicate}
use Rattle.key_slots.specs.Holdings.{Pairs, Gains, AreHoldings, IsHolding, names, named, same}
use Rattle.store_bench.specs.Keeping.{AreLeases, first_has, first_two_have}

-- the first caller gains a pair
pub first_gains : (own : Pairs) (p : ℕ × ℕ) → Gains (first_has own) (first_has (p ∷ own)) p
first_gains own p i n = let a = names i n own in omega arith

pub nothing : IsHolding []
nothing = record { leases = omega arith; fillings = omega arith }

pub are_two : (own other : Pairs) → IsHolding own → IsHolding other → AreHoldings (first_two_have own other)
are_two own other o t = record { callers = omega arith; each = All-cons IsHolding own (other ∷ replicate 14 []) o (All-cons IsHolding other (replicate 14 []) t (All-replicate IsHolding 14 [] nothing)) }

pub are_one : (own : Pairs) → IsHolding own → AreHoldings (first_has own)
are_one own o = are_two own [] o nothing

-- a filling alone
pub filling_alone : (slot : ℕ) → IsHolding ((slot, 0) ∷ [])
filling_alone slot = record { leases = omega arith; fillings = omega arith }

pub none : AreHoldings (first_has [])
none = are_one [] nothing

-- a pair that was gained is out
pub is_out : (all more : List Pairs) (p : ℕ × ℕ) → Gains all more p → 0 < named p.0 p.1 more
is_out all more p gains = let e = gains p.0 p.1 in let one = here p.0 p.1 in omega arith
  where
    here : (i n : ℕ) → same i n (i, n) ≡ 1
    here i n = grind (arith, nat_tests)

-- LEASES

pub no_leases : (most : ℕ) → AreLeases [] most
no_leases most = record { leases = omega arith; fillings = refl }

-- one more pair
counted : (t : ℕ × ℕ → Bool) (b : Bool) (p : ℕ × ℕ) (own : Pairs) → t p ≡ b → count_by t (p ∷ own) ≡ cond b 1 0 + count_by t own
counted t b p own is = sum_by-cons (λ (x : ℕ × ℕ). cond (t x) 1 0) p own ∙ ap (λ x. cond x 1 0 + count_by t own) is

pub lease_beside : (own : Pairs) (most slot number : ℕ) → AreLeases own most → AreLeases ((slot, number + 1) ∷ own) (most + 1)
lease_beside own most slot number l =
    let leases = l.leases in
    let fillings = l.fillings in
    let one = counted (λ p. nat_lt 0 p.1) true (slot, number + 1) own (grind (arith, nat_tests)) in
    let none = counted (λ p. p.1 == 0) false (slot, number + 1) own (grind (arith, nat_tests)) in
    record { leases = omega (arith, one, leases); fillings = omega (arith, none, fillings) }

pub hold : (own : Pairs) (most : ℕ) → most ≤ 5 → AreLeases own most → AreHoldings (first_has own)
hold own most few l = let leases = l.leases in let fillings = l.fillings in are_one own (record { leases = omega (arith, leases, few); fillings = omega (arith, fillings) })
