-- The S-box and its inverse undo each other.
use Rattle.std.proofs.Common.{Bool, ap, arith, eqb, false, refl, suc, true, zero, ℕ, ◌*◌, ◌+◌, ◌<◌, ◌^◌, ◌∙◌, ◌≡◌, ◌≤◌}
use Rattle.crypto_specs.proofs.{Common.affine_bit, Common.affine_bits, Common.gf_inverse, Common.gf_mul, Common.inv_affine_bit, Common.inv_affine_bits, Common.inv_sbox, Common.inverse_from, Common.sbox, Common.sum_of_shifts, FieldLaws.all_below, FieldLaws.same_below}

inverse_test : all_below 256 (λ b. eqb (gf_inverse (gf_inverse b)) b) ≡ true
unfolding all_below sum_of_shifts inverse_from
inverse_test = refl

affine_test : all_below 256 (λ b. eqb (inv_affine_bits (affine_bits b 8) 8) b) ≡ true
unfolding all_below affine_bits inv_affine_bits
affine_test = refl

inv_affine_test : all_below 256 (λ b. eqb (affine_bits (inv_affine_bits b 8) 8) b) ≡ true
unfolding all_below affine_bits inv_affine_bits
inv_affine_test = refl

inverse_from-below : (n y b m : ℕ) → y + n ≤ m → 0 < m → inverse_from n y b < m
unfolding inverse_from
inverse_from-below zero y b m h p = p
inverse_from-below (suc n) y b m h p = by_case (eqb (gf_mul y b) 1) (inverse_from-below n (y + 1) b m (omega arith) p)
  where
    by_case : (t : Bool) → inverse_from n (y + 1) b < m → elim t [ true ↦ y | false ↦ inverse_from n (y + 1) b ] < m
    by_case true k = omega arith
    by_case false k = k

gf_inverse-byte : (b : ℕ) → gf_inverse b < 256
gf_inverse-byte b = inverse_from-below 256 0 b 256 (omega arith) (omega arith)

one_more_bit : (t m x : ℕ) → t < 2 → x < m → x + t * m < m + m
one_more_bit zero m x h k = omega arith
one_more_bit (suc zero) m x h k = omega arith
one_more_bit (suc (suc t)) m x h k = absurd (omega arith)

affine_bits-below : (b n : ℕ) → affine_bits b n < 2 ^ n
unfolding affine_bits
affine_bits-below b zero = omega arith
affine_bits-below b (suc n) = omega (arith, one_more_bit (affine_bit b n) (2 ^ n) (affine_bits b n) (omega arith) (affine_bits-below b n))

inv_affine_bits-below : (b n : ℕ) → inv_affine_bits b n < 2 ^ n
unfolding inv_affine_bits
inv_affine_bits-below b zero = omega arith
inv_affine_bits-below b (suc n) = omega (arith, one_more_bit (inv_affine_bit b n) (2 ^ n) (inv_affine_bits b n) (omega arith) (inv_affine_bits-below b n))

pub sbox-byte : (b : ℕ) → sbox b < 256
unfolding sbox
sbox-byte b = affine_bits-below (gf_inverse b) 8

pub inv_sbox-byte : (b : ℕ) → inv_sbox b < 256
unfolding inv_sbox
inv_sbox-byte b = gf_inverse-byte (inv_affine_bits b 8)

pub inv_sbox_of_sbox : (b : ℕ) → b < 256 → inv_sbox (sbox b) ≡ b
unfolding sbox inv_sbox
inv_sbox_of_sbox b h =
    ap gf_inverse (same_below 256 (λ b. inv_affine_bits (affine_bits b 8) 8) (λ b. b) affine_test (gf_inverse b) (gf_inverse-byte b)) ∙ same_below 256 (λ b. gf_inverse (gf_inverse b)) (λ b. b) inverse_test b h

pub sbox_of_inv_sbox : (b : ℕ) → b < 256 → sbox (inv_sbox b) ≡ b
unfolding sbox inv_sbox
sbox_of_inv_sbox b h =
    ap (λ (n : ℕ). affine_bits n 8) (same_below 256 (λ b. gf_inverse (gf_inverse b)) (λ b. b) inverse_test (inv_affine_bits b 8) (inv_affine_bits-below b 8))
    ∙ same_below 256 (λ b. affine_bits (inv_affine_bits b 8) 8) (λ b. b) inv_affine_test b h
