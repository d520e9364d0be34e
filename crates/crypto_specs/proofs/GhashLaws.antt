-- The product of blocks in GHASH is linear in each factor.
use Rattle.std.proofs.Common.{Bool, ap, ap₂, bit_xor, cond, eqb, refl, suc, zero, ℕ, ◌%◌, ◌/◌, ◌^◌, ◌∙◌, ◌≡◌}
use Rattle.crypto_specs.proofs.{Common.bit_at, Common.block_product, Common.reduction, Common.times_x, Common.xor_shr, FieldLaws.chosen-xor, FieldLaws.cond-xor, FieldLaws.xor_four}
use Rattle.crypto_specs.specs.Ghash.{sum_of_multiples}

-- ---- in the first factor

first_factor : (n a b v : ℕ) → sum_of_multiples n (bit_xor a b) v ≡ bit_xor (sum_of_multiples n a v) (sum_of_multiples n b v)
unfolding sum_of_multiples
first_factor zero a b v = refl
first_factor (suc n) a b v =
    let shifted : bit_xor a b / 2 ^ n ≡ bit_xor (a / 2 ^ n) (b / 2 ^ n) = xor_shr a b n in
    ap₂ bit_xor (ap (λ (m : ℕ). cond (eqb (m % 2) 1) v 0) shifted ∙ chosen-xor (a / 2 ^ n) (b / 2 ^ n) v) (first_factor n a b (times_x v))
    ∙ xor_four (cond (eqb (bit_at a n) 1) v 0) (cond (eqb (bit_at b n) 1) v 0) (sum_of_multiples n a (times_x v)) (sum_of_multiples n b (times_x v))

pub product_of_first_sum : (a b v : ℕ) → block_product (bit_xor a b) v ≡ bit_xor (block_product a v) (block_product b v)
product_of_first_sum a b v = first_factor 128 a b v

-- ---- in the second factor

pub times_x-xor : (a b : ℕ) → times_x (bit_xor a b) ≡ bit_xor (times_x a) (times_x b)
unfolding times_x
times_x-xor a b =
    ap₂ bit_xor (xor_shr a b 1) (chosen-xor a b reduction)
    ∙ xor_four (a / 2) (b / 2) (cond (eqb (a % 2) 1) reduction 0) (cond (eqb (b % 2) 1) reduction 0)

second_factor : (n a v w : ℕ) → sum_of_multiples n a (bit_xor v w) ≡ bit_xor (sum_of_multiples n a v) (sum_of_multiples n a w)
unfolding sum_of_multiples
second_factor zero a v w = refl
second_factor (suc n) a v w =
    let t : Bool = eqb (bit_at a n) 1 in
    ap₂ bit_xor (cond-xor t v w) (ap (sum_of_multiples n a) (times_x-xor v w) ∙ second_factor n a (times_x v) (times_x w))
    ∙ xor_four (cond t v 0) (cond t w 0) (sum_of_multiples n a (times_x v)) (sum_of_multiples n a (times_x w))

pub product_of_second_sum : (a v w : ℕ) → block_product a (bit_xor v w) ≡ bit_xor (block_product a v) (block_product a w)
product_of_second_sum a v w = second_factor 128 a v w
