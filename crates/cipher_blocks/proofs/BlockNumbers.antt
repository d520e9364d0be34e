-- A block as a number and back, and sums of blocks.
use Rattle.cipher_blocks.proofs.Common.{List, [], ap, ap₂, arith, bit_xor, block_number, byte_at, bytes_high_first, div-mul-add, length, mod-mul-add, mul-add-lt, number_block, pow-add, refl, slice_index, suc, sym, xor_bytes, xor_mod, xor_shr, zero, ℕ, ◌%◌, ◌*◌, ◌++◌, ◌+◌, ◌/◌, ◌<◌, ◌^◌, ◌∙◌, ◌∷◌, ◌≡◌}
use Rattle.std.proofs.{Math.Nat.pow-suc, Math.Nat.mul_comm, Math.Nat.mod-eq_of_lt, Math.Arith.mod-mul}

-- the number of some bytes, first byte highest
unfoldable value : List ℕ → ℕ
value [] = 0
value (b ∷ bs) = b * 256 ^ length bs + value bs

abbrev pub AreBytes : List ℕ → Type 0
AreBytes bs = (i : ℕ) → slice_index bs i < 256

pub bytes-append : (xs ys : List ℕ) → AreBytes xs → AreBytes ys → AreBytes (xs ++ ys)
bytes-append [] ys h k i = k i
bytes-append (x ∷ xs) ys h k zero = h 0
bytes-append (x ∷ xs) ys h k (suc i) = bytes-append xs ys (λ j. h (suc j)) k i

value_below : (bs : List ℕ) → AreBytes bs → value bs < 256 ^ length bs
unfolding value
value_below [] all = omega arith
value_below (b ∷ bs) all =
    rw (pow-suc 256 (length bs)) (mul-add-lt b (256 ^ length bs) (value bs) 256 (all 0) (value_below bs (λ i. all (suc i))))

pub byte_at_is : (k n : ℕ) → byte_at k n ≡ n / 256 ^ k % 256
byte_at_is zero n = omega arith
byte_at_is (suc k) n = refl

regroup : (h b p v : ℕ) → h * (p * 256) + (b * p + v) ≡ (h * 256 + b) * p + v
regroup h b p v = grind arith

written : (bs : List ℕ) (high : ℕ) → AreBytes bs → bytes_high_first (length bs) (high * 256 ^ length bs + value bs) ≡ bs
unfolding value
written [] high all = refl
written (b ∷ bs) high all =
    let p : ℕ = 256 ^ length bs in
    let n : ℕ = high * 256 ^ suc (length bs) + (b * p + value bs) in
    let split : n ≡ (high * 256 + b) * p + value bs = rw (pow-suc 256 (length bs)) (regroup high b p (value bs)) in
    let below : value bs < p = value_below bs (λ i. all (suc i)) in
    let first : byte_at (length bs) n ≡ b =
    byte_at_is (length bs) n ∙ ap (λ (m : ℕ). m / p % 256) split ∙ ap (λ (m : ℕ). m % 256) (div-mul-add (high * 256 + b) p (value bs) below) ∙ mod-mul-add high 256 b (all 0) in
    ap₂ (λ (x : ℕ) (xs : List ℕ). x ∷ xs) first (ap (bytes_high_first (length bs)) split ∙ written bs (high * 256 + b) (λ i. all (suc i)))

-- the n elements from place i on
abbrev elements : List ℕ → ℕ → ℕ → List ℕ
elements b i zero = []
elements b i (suc n) = slice_index b i ∷ elements b (suc i) n

elements_after : (x : ℕ) (xs : List ℕ) (i n : ℕ) → elements (x ∷ xs) (suc i) n ≡ elements xs i n
elements_after x xs i zero = refl
elements_after x xs i (suc n) = ap (λ (l : List ℕ). slice_index xs i ∷ l) (elements_after x xs (suc i) n)

elements_all : (b : List ℕ) → elements b 0 (length b) ≡ b
elements_all [] = refl
elements_all (x ∷ xs) = ap (λ (l : List ℕ). x ∷ l) (elements_after x xs 0 (length xs) ∙ elements_all xs)

block_value : (b : List ℕ) → length b ≡ 16 → block_number b ≡ value b
unfolding block_number value
block_value b long =
    let whole : elements b 0 16 ≡ b = ap (elements b 0) (sym long) ∙ elements_all b in
    let sum : block_number b ≡ value (elements b 0 16) = omega arith in
    sum ∙ ap value whole

-- a block of bytes comes back from its number
pub block_of_number : (b : List ℕ) → length b ≡ 16 → AreBytes b → number_block (block_number b) ≡ b
unfolding number_block
block_of_number b long all =
    let none : value b ≡ 0 * 256 ^ length b + value b = omega arith in
    ap number_block (block_value b long) ∙ ap₂ bytes_high_first (sym long) none ∙ written b 0 all

pub length-bytes_high_first : (k n : ℕ) → length (bytes_high_first k n) ≡ k
length-bytes_high_first zero n = refl
length-bytes_high_first (suc k) n = ap suc (length-bytes_high_first k n)

pub power_positive : (k : ℕ) → 0 < 256 ^ k
power_positive zero = omega arith
power_positive (suc k) = rw (pow-suc 256 k) (omega (arith, power_positive k))

value_written : (k n : ℕ) → value (bytes_high_first k n) ≡ n % 256 ^ k
unfolding value
value_written zero n = omega arith
value_written (suc k) n =
    ap₂ (λ (a p : ℕ). a * 256 ^ p + value (bytes_high_first k n)) (byte_at_is k n) (length-bytes_high_first k n)
    ∙ ap (λ (v : ℕ). n / 256 ^ k % 256 * 256 ^ k + v) (value_written k n)
    ∙ sym (mod-mul n {m = 256} {c = 256 ^ k} (omega arith) (power_positive k))
    ∙ ap (λ (p : ℕ). n % p) (mul_comm 256 (256 ^ k) ∙ sym (pow-suc 256 k))

-- a number comes back from its block
pub number_of_block : (n : ℕ) → n < 2 ^ 128 → block_number (number_block n) ≡ n
unfolding number_block
number_of_block n h = block_value (number_block n) refl ∙ value_written 16 n ∙ mod-eq_of_lt h

pub power_of_256 : (k : ℕ) → 256 ^ k ≡ 2 ^ (8 * k)
power_of_256 zero = refl
power_of_256 (suc k) =
    let more : 8 * suc k ≡ 8 * k + 8 = omega arith in
    rw (pow-suc 256 k, power_of_256 k, more, pow-add 2 (8 * k) 8) refl

xor_byte : (k a b : ℕ) → byte_at k (bit_xor a b) ≡ bit_xor (byte_at k a) (byte_at k b)
xor_byte k a b =
    let p : 256 ^ k ≡ 2 ^ (8 * k) = power_of_256 k in
    let shifted : bit_xor a b / 256 ^ k ≡ bit_xor (a / 256 ^ k) (b / 256 ^ k) = rw p (xor_shr a b (8 * k)) in
    byte_at_is k (bit_xor a b) ∙ ap (λ (n : ℕ). n % 256) shifted ∙ xor_mod (a / 256 ^ k) (b / 256 ^ k) 8
    ∙ ap₂ bit_xor (sym (byte_at_is k a)) (sym (byte_at_is k b))

pub xor_bytes_high_first : (k a b : ℕ) → bytes_high_first k (bit_xor a b) ≡ xor_bytes (bytes_high_first k a) (bytes_high_first k b)
xor_bytes_high_first zero a b = refl
xor_bytes_high_first (suc k) a b = ap₂ (λ (x : ℕ) (xs : List ℕ). x ∷ xs) (xor_byte k a b) (xor_bytes_high_first k a b)

-- the block of a xor is the xor of the blocks
pub block_of_xor : (a b : ℕ) → number_block (bit_xor a b) ≡ xor_bytes (number_block a) (number_block b)
unfolding number_block
block_of_xor a b = xor_bytes_high_first 16 a b
