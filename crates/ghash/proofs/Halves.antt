-- The product of blocks by x^4 in two halves, and the bytes of a block.
use Rattle.ghash.proofs.Common.{REDUCTIONS, ap, ap₂, arith, bit_xor, joined_halves, shr-shr, slice_index, suc, sym, times_x4, xor_block, xor_comm, xor_shifted, xor_zero_r, zero, ℕ, ◌%◌, ◌*◌, ◌+◌, ◌/◌, ◌<◌, ◌^◌, ◌∙◌, ◌≡◌}
use Rattle.ghash.proofs.GroupProducts.{at_top, shifted_four}

-- the sum of joined halves
xor_joined : (a b c d : ℕ) → b < 2 ^ 64 → d < 2 ^ 64 → bit_xor (joined_halves a b) (joined_halves c d) ≡ joined_halves (bit_xor a c) (bit_xor b d)
xor_joined a b c d hb hd = xor_block 64 a c b d hb hd

-- the four lowest bits of the high half go into the low one
low_shifted : (high low : ℕ) → low < 2 ^ 64 → bit_xor (low / 16) (high * 2 ^ 60 % 2 ^ 64) ≡ high % 16 * 2 ^ 60 + low / 16
low_shifted high low h =
    let moved : high * 2 ^ 60 % 2 ^ 64 ≡ high % 16 * 2 ^ 60 = omega arith in
    ap (bit_xor (low / 16)) moved ∙ xor_comm (low / 16) (high % 16 * 2 ^ 60) ∙ xor_shifted (high % 16) 60 (low / 16) (omega arith)

pub halves_shifted : (high low p q : ℕ) → low < 2 ^ 64 → q < 2 ^ 64
    → joined_halves (bit_xor (bit_xor (high / 16) (slice_index REDUCTIONS (low % 16))) p) (bit_xor (bit_xor (low / 16) (high * 2 ^ 60 % 2 ^ 64)) q)
    ≡ bit_xor (times_x4 (joined_halves high low)) (joined_halves p q)
halves_shifted high low p q h k =
    let z : ℕ = joined_halves high low in
    let down : ℕ = bit_xor (low / 16) (high * 2 ^ 60 % 2 ^ 64) in
    let top : ℕ = slice_index REDUCTIONS (low % 16) in
    let is_down : down ≡ high % 16 * 2 ^ 60 + low / 16 = low_shifted high low h in
    let below : down < 2 ^ 64 = omega (arith, is_down) in
    let shifted : z / 16 ≡ joined_halves (high / 16) down = omega (arith, is_down) in
    let place : z % 16 ≡ low % 16 = omega arith in
    let at : at_top top ≡ joined_halves top 0 = omega arith in
    let product : times_x4 z ≡ joined_halves (bit_xor (high / 16) top) down =
    sym (shifted_four z) ∙ ap₂ bit_xor shifted (ap (λ (i : ℕ). at_top (slice_index REDUCTIONS i)) place ∙ at)
    ∙ xor_joined (high / 16) down top 0 below (omega arith) ∙ ap (joined_halves (bit_xor (high / 16) top)) (xor_zero_r down) in
    sym (ap (λ (n : ℕ). bit_xor n (joined_halves p q)) product ∙ xor_joined (bit_xor (high / 16) top) down p q below k)

-- ---- the bits of a block

-- byte i of 64 bits of a block
byte_of_bits : (y i : ℕ) → i < 8 → y % 2 ^ 64 / 2 ^ (8 * i) % 256 ≡ y / 2 ^ (8 * i) % 256
byte_of_bits y zero h = omega arith
byte_of_bits y (suc zero) h = omega arith
byte_of_bits y (suc (suc zero)) h = omega arith
byte_of_bits y (suc (suc (suc zero))) h = omega arith
byte_of_bits y (suc (suc (suc (suc zero)))) h = omega arith
byte_of_bits y (suc (suc (suc (suc (suc zero))))) h = omega arith
byte_of_bits y (suc (suc (suc (suc (suc (suc zero)))))) h = omega arith
byte_of_bits y (suc (suc (suc (suc (suc (suc (suc zero))))))) h = omega arith
byte_of_bits y (suc (suc (suc (suc (suc (suc (suc (suc i)))))))) h = absurd (omega arith)

pub byte_is : (bits x i : ℕ) → i < 8 → bits ≡ x % 2 ^ 64 → bits / 2 ^ (8 * i) % 256 ≡ x / 2 ^ (8 * i) % 256
byte_is bits x i h e = ap (λ (b : ℕ). b / 2 ^ (8 * i) % 256) e ∙ byte_of_bits x i h

-- the two groups of four bits in a byte
pub low_group : (b x n : ℕ) → b ≡ x / 2 ^ n % 256 → b % 16 ≡ x / 2 ^ n % 16
low_group b x n e = omega (arith, e)

pub high_group : (b x n : ℕ) → b ≡ x / 2 ^ n % 256 → b / 16 ≡ x / 2 ^ (n + 4) % 16
high_group b x n e =
    let shifted : x / 2 ^ n / 2 ^ 4 ≡ x / 2 ^ (n + 4) = shr-shr x n 4 in
    omega (arith, e, shifted)
