-- The product of a block and x, and the terms of a product of blocks.
use Rattle.ghash.proofs.Common.{bit_at, bit_xor, cond, eqb, reduction, refl, sym, times_x, xor_zero_r, ℕ, ◌%◌, ◌/◌, ◌≡◌}
use Rattle.std.proofs.lemmas.Bool.{eq-eqb, ne_eqb}

pub times_x_odd : (v : ℕ) → v % 2 ≡ 1 → bit_xor (v / 2) reduction ≡ times_x v
unfolding times_x
times_x_odd v h = rw (eq-eqb (v % 2) 1 h) refl

pub times_x_even : (v : ℕ) → (v % 2 ≡ 1 → ⊥) → v / 2 ≡ times_x v
unfolding times_x
times_x_even v h = rw (ne_eqb (v % 2) 1 h) (sym (xor_zero_r (v / 2)))

-- the term of bit n in the product
abbrev pub term : ℕ → ℕ → ℕ → ℕ
term a n v = cond (eqb (bit_at a n) 1) v 0
