-- The block of a number in two halves.
use Rattle.cipher_blocks.proofs.Common.{List, [], ap, append-nil, ap₂, arith, byte_at, bytes_high_first, drop, drop_all, drop_at, length, length-drop, length-take, length-xor_bytes, number_block, refl, shr-shr, suc, sym, take, take-append-drop, take_all, take_at, to_be_bytes, w64, xor_bytes, xor_bytes-append, zero, ℕ, ◌%◌, ◌*◌, ◌++◌, ◌+◌, ◌/◌, ◌<◌, ◌^◌, ◌∙◌, ◌∷◌, ◌≡◌, ◌≤◌}
use borrow.Rule.Slice.PartMut.{put_mid}
use Rattle.cipher_blocks.proofs.BlockNumbers.{byte_at_is, power_of_256}

byte_above : (k n : ℕ) → byte_at (k + 8) n ≡ byte_at k (n / 2 ^ 64)
byte_above k n =
    let place : 8 * (k + 8) ≡ 64 + 8 * k = omega arith in
    let high : n / 256 ^ (k + 8) ≡ n / 2 ^ (64 + 8 * k) = ap (λ (p : ℕ). n / p) (power_of_256 (k + 8)) ∙ ap (λ (m : ℕ). n / 2 ^ m) place in
    let same : n / 2 ^ 64 / 256 ^ k ≡ n / 2 ^ (64 + 8 * k) = ap (λ (p : ℕ). n / 2 ^ 64 / p) (power_of_256 k) ∙ shr-shr n 64 (8 * k) in
    byte_at_is (k + 8) n ∙ ap (λ (m : ℕ). m % 256) (high ∙ sym same) ∙ sym (byte_at_is k (n / 2 ^ 64))

bytes_above : (k n : ℕ) → bytes_high_first (k + 8) n ≡ bytes_high_first k (n / 2 ^ 64) ++ bytes_high_first 8 n
bytes_above zero n = let none : 0 + 8 ≡ 8 = omega arith in ap (λ (m : ℕ). bytes_high_first m n) none
bytes_above (suc k) n =
    let more : suc k + 8 ≡ suc (k + 8) = omega arith in
    ap (λ (m : ℕ). bytes_high_first m n) more ∙ ap₂ (λ (b : ℕ) (l : List ℕ). b ∷ l) (byte_above k n) (bytes_above k n)

byte_below : (k n : ℕ) → k < 8 → byte_at k n ≡ byte_at k (n % 2 ^ 64)
byte_below zero n h = omega arith
byte_below (suc zero) n h = omega arith
byte_below (suc (suc zero)) n h = omega arith
byte_below (suc (suc (suc zero))) n h = omega arith
byte_below (suc (suc (suc (suc zero)))) n h = omega arith
byte_below (suc (suc (suc (suc (suc zero))))) n h = omega arith
byte_below (suc (suc (suc (suc (suc (suc zero)))))) n h = omega arith
byte_below (suc (suc (suc (suc (suc (suc (suc zero))))))) n h = omega arith
byte_below (suc (suc (suc (suc (suc (suc (suc (suc k)))))))) n h = absurd (omega arith)

bytes_below : (k n : ℕ) → k ≤ 8 → bytes_high_first k n ≡ bytes_high_first k (n % 2 ^ 64)
bytes_below zero n h = refl
bytes_below (suc k) n h = ap₂ (λ (b : ℕ) (l : List ℕ). b ∷ l) (byte_below k n (omega arith)) (bytes_below k n (omega arith))

block_of_halves : (n : ℕ) → to_be_bytes w64 (n / 2 ^ 64) ++ to_be_bytes w64 (n % 2 ^ 64) ≡ number_block n
unfolding number_block
block_of_halves n = sym (bytes_above 8 n ∙ ap (λ (l : List ℕ). bytes_high_first 8 (n / 2 ^ 64) ++ l) (bytes_below 8 n (omega arith)))

-- the two halves written over a block
pub block_written : (block : List ℕ) (n : ℕ) (high low : List ℕ) (k : ℕ) → length block ≡ 16 → 8 ≤ k → high ≡ to_be_bytes w64 (n / 2 ^ 64) → low ≡ to_be_bytes w64 (n % 2 ^ 64)
    → put_mid 8 k (high ++ drop 8 block) low ≡ number_block n
block_written block n high low k long more eh el =
    let size : length high ≡ 8 = ap length eh in
    let rest : drop 8 (high ++ drop 8 block) ≡ drop 8 block = drop_at high (drop 8 block) 8 size in
    let none : drop k (drop 8 (high ++ drop 8 block)) ≡ [] = ap (drop k) rest ∙ drop_all k (drop 8 block) (omega (arith, length-drop 8 block)) in
    ap₂ (λ (a b : List ℕ). a ++ (low ++ b)) (take_at high (drop 8 block) 8 size) none
    ∙ ap (λ (l : List ℕ). high ++ l) (append-nil low) ∙ ap₂ (λ (a b : List ℕ). a ++ b) eh el ∙ block_of_halves n

-- and the two halves xored
pub halves_xored : (piece : List ℕ) (n : ℕ) (high low : List ℕ) (k : ℕ) → length piece ≡ 16 → 8 ≤ k → high ≡ xor_bytes (take 8 piece) (to_be_bytes w64 (n / 2 ^ 64))
    → low ≡ xor_bytes (take k (drop 8 (high ++ drop 8 piece))) (to_be_bytes w64 (n % 2 ^ 64)) → put_mid 8 k (high ++ drop 8 piece) low ≡ xor_bytes piece (number_block n)
halves_xored piece n high low k long more eh el =
    let front : length (take 8 piece) ≡ 8 = omega (arith, length-take 8 piece) in
    let size : length high ≡ 8 = omega (arith, ap length eh, length-xor_bytes (take 8 piece) (to_be_bytes w64 (n / 2 ^ 64))) in
    let rest : drop 8 (high ++ drop 8 piece) ≡ drop 8 piece = drop_at high (drop 8 piece) 8 size in
    let back : low ≡ xor_bytes (drop 8 piece) (to_be_bytes w64 (n % 2 ^ 64)) =
    el ∙ ap (λ (l : List ℕ). xor_bytes l (to_be_bytes w64 (n % 2 ^ 64))) (ap (take k) rest ∙ take_all k (drop 8 piece) (omega (arith, length-drop 8 piece))) in
    let none : drop k (drop 8 (high ++ drop 8 piece)) ≡ [] = ap (drop k) rest ∙ drop_all k (drop 8 piece) (omega (arith, length-drop 8 piece)) in
    ap₂ (λ (a b : List ℕ). a ++ (low ++ b)) (take_at high (drop 8 piece) 8 size) none
    ∙ ap (λ (l : List ℕ). high ++ l) (append-nil low) ∙ ap₂ (λ (a b : List ℕ). a ++ b) eh back
    ∙ sym (ap₂ xor_bytes (sym (take-append-drop 8 piece)) (sym (block_of_halves n)) ∙ xor_bytes-append (take 8 piece) (drop 8 piece) (to_be_bytes w64 (n / 2 ^ 64)) (to_be_bytes w64 (n % 2 ^ 64)) front)
