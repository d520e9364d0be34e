-- The formatted blocks, as they are written.
use Rattle.aead_ccm.proofs.Common.{List, [], ap, arith, byte_at, drop, drop-drop, drop-replicate, drop_min, encoded_data, encoded_length, eq-eqb, filled_block, in_bytes, le-ltb, length, length-append, lt-ltb, min, ne_eqb, refl, replicate, slice_set, sym, take, to_be_bytes, w128, w16, w32, w64, ℕ, ◌++◌, ◌+◌, ◌-◌, ◌<◌, ◌∙◌, ◌∷◌, ◌≡◌, ◌≤◌}

-- ---- a number in its bytes

-- the last bytes of a number in 16 bytes are those of the number in 8
pub last_bytes : (n x : ℕ) → 7 ≤ n → n ≤ 13 → drop n (drop 1 (to_be_bytes w128 x)) ≡ in_bytes (15 - n) x
last_bytes n x low high =
    let rest : List ℕ = drop 1 (to_be_bytes w128 x) in
    let place : 7 + (n - 7) ≡ n = omega arith in
    let same : n - 7 ≡ 8 - (15 - n) = omega arith in
    ap (λ (k : ℕ). drop k rest) (sym place) ∙ sym (drop-drop (n - 7) 7 rest) ∙ ap (λ (k : ℕ). drop k (to_be_bytes w64 x)) same

-- a byte, a nonce and a number, written over the number in 16 bytes
pub nonce_block_is : (nonce number block : List ℕ) (first x : ℕ) → 7 ≤ length nonce → length nonce ≤ 13 → number ≡ to_be_bytes w128 x
    → block ≡ take 1 (slice_set number 0 first) ++ nonce ++ drop (length nonce) (drop 1 (slice_set number 0 first)) → block ≡ first ∷ nonce ++ in_bytes (15 - length nonce) x
nonce_block_is nonce number block first x low high en eb =
    eb ∙ ap (λ (l : List ℕ). take 1 (slice_set l 0 first) ++ nonce ++ drop (length nonce) (drop 1 (slice_set l 0 first))) en
    ∙ ap (λ (l : List ℕ). first ∷ nonce ++ l) (last_bytes (length nonce) x low high)

-- ---- associated data

pub no_data : (ad : List ℕ) → length ad ≡ 0 → encoded_data ad ≡ []
unfolding encoded_data
no_data ad h = rw (eq-eqb (length ad) 0 h) refl

pub some_data : (ad : List ℕ) → 0 < length ad → encoded_data ad ≡ encoded_length (length ad) ++ ad
unfolding encoded_data
some_data ad h =
    let some : length ad ≡ 0 → ⊥ = λ e. omega arith in
    rw (ne_eqb (length ad) 0 some) refl

pub data_is_some : (ad : List ℕ) → 0 < length ad → 0 < length (encoded_data ad)
data_is_some ad h = omega (arith, ap length (some_data ad h), length-append (encoded_length (length ad)) ad)

short_data : (ad : List ℕ) → 0 < length ad → length ad < 65280 → encoded_data ad ≡ to_be_bytes w16 (length ad) ++ ad
short_data ad some h = some_data ad some ∙ rw (lt-ltb (length ad) 65280 h) refl

long_data : (ad : List ℕ) → 65280 ≤ length ad → encoded_data ad ≡ 0xff ∷ 0xfe ∷ to_be_bytes w32 (length ad) ++ ad
long_data ad h =
    let some : 0 < length ad = omega arith in
    some_data ad some ∙ rw (le-ltb (length ad) 65280 h) refl

-- the first block: a length in 2 bytes, and what fits after it
pub short_front : (ad bytes one piece two : List ℕ) → 0 < length ad → length ad < 65280 → bytes ≡ to_be_bytes w16 (length ad) → one ≡ bytes ++ drop (length bytes) (replicate 16 0)
    → piece ≡ take 14 ad → two ≡ take 2 one ++ piece ++ drop (length piece) (drop 2 one) → two ≡ filled_block (take 16 (encoded_data ad))
short_front ad bytes one piece two some short eb e1 ep e2 =
    let x : ℕ = byte_at 1 (length ad) in
    let y : ℕ = byte_at 0 (length ad) in
    let start : one ≡ x ∷ y ∷ replicate 14 0 = e1 ∙ ap (λ (l : List ℕ). l ++ drop (length l) (replicate 16 0)) eb in
    let left : 14 - length piece ≡ 16 - (2 + length piece) = omega arith in
    let fill : drop (length piece) (replicate 14 0) ≡ replicate (16 - (2 + length piece)) 0 = drop-replicate (length piece) 14 0 ∙ ap (λ (n : ℕ). replicate n 0) left in
    let written : two ≡ x ∷ y ∷ (piece ++ replicate (16 - (2 + length piece)) 0) =
    e2 ∙ ap (λ (l : List ℕ). take 2 l ++ piece ++ drop (length piece) (drop 2 l)) start ∙ ap (λ (l : List ℕ). x ∷ y ∷ (piece ++ l)) fill in
    let count : 2 + length (take 14 ad) ≡ length (x ∷ y ∷ take 14 ad) = omega arith in
    let front : List ℕ = x ∷ y ∷ take 14 ad in
    written ∙ ap (λ (l : List ℕ). x ∷ y ∷ (l ++ replicate (16 - (2 + length l)) 0)) ep ∙ ap (λ (n : ℕ). front ++ replicate (16 - n) 0) count
    ∙ ap (λ (l : List ℕ). filled_block (take 16 l)) (sym (short_data ad some short))

-- the first block: two bytes, a length in 4 bytes, and what fits after it
pub long_front : (ad bytes one two piece three : List ℕ) → 65280 ≤ length ad → one ≡ (0xff ∷ 0xfe ∷ []) ++ drop 2 (replicate 16 0) → bytes ≡ to_be_bytes w32 (length ad)
    → two ≡ take 2 one ++ bytes ++ drop (length bytes) (drop 2 one) → piece ≡ take 10 ad → three ≡ take 6 two ++ piece ++ drop (length piece) (drop 6 two)
    → three ≡ filled_block (take 16 (encoded_data ad))
long_front ad bytes one two piece three long e1 eb e2 ep e3 =
    let length_bytes : List ℕ = 0xff ∷ 0xfe ∷ byte_at 3 (length ad) ∷ byte_at 2 (length ad) ∷ byte_at 1 (length ad) ∷ byte_at 0 (length ad) ∷ [] in
    let start : two ≡ length_bytes ++ replicate 10 0 =
    e2 ∙ ap (λ (l : List ℕ). take 2 l ++ bytes ++ drop (length bytes) (drop 2 l)) e1 ∙ ap (λ (l : List ℕ). 0xff ∷ 0xfe ∷ l ++ drop (length l) (replicate 14 0)) eb in
    let left : 10 - length piece ≡ 16 - (6 + length piece) = omega arith in
    let fill : drop (length piece) (replicate 10 0) ≡ replicate (16 - (6 + length piece)) 0 = drop-replicate (length piece) 10 0 ∙ ap (λ (n : ℕ). replicate n 0) left in
    let written : three ≡ length_bytes ++ piece ++ replicate (16 - (6 + length piece)) 0 =
    e3 ∙ ap (λ (l : List ℕ). take 6 l ++ piece ++ drop (length piece) (drop 6 l)) start ∙ ap (λ (l : List ℕ). length_bytes ++ piece ++ l) fill in
    let count : 6 + length (take 10 ad) ≡ length (length_bytes ++ take 10 ad) = omega arith in
    let front : List ℕ = length_bytes ++ take 10 ad in
    written ∙ ap (λ (l : List ℕ). length_bytes ++ l ++ replicate (16 - (6 + length l)) 0) ep ∙ ap (λ (n : ℕ). front ++ replicate (16 - n) 0) count
    ∙ ap (λ (l : List ℕ). filled_block (take 16 l)) (sym (long_data ad long))

-- and what the later blocks have
pub short_rest : (ad : List ℕ) (count : ℕ) → 0 < length ad → length ad < 65280 → count ≡ min 14 (length ad) → drop count ad ≡ drop 16 (encoded_data ad)
short_rest ad count some short ec = ap (λ (n : ℕ). drop n ad) ec ∙ drop_min 14 ad ∙ ap (drop 16) (sym (short_data ad some short))

pub long_rest : (ad : List ℕ) → 65280 ≤ length ad → drop 10 ad ≡ drop 16 (encoded_data ad)
long_rest ad long = ap (drop 16) (sym (long_data ad long))
