-- GHASH of the blocks of a text, part by part.
use Rattle.aead_streams.proofs.Common.{List, [], ap, arith, bit_xor, block_number, block_product, blocks, blocks-append, drop, drop-drop, ghash_from, length, map, refl, rest_from, suc, take, zero, ℕ, ◌*◌, ◌++◌, ◌+◌, ◌∙◌, ◌≡◌, ◌≤◌}

pub rest-append : (n h y : ℕ) (xs ys : List ℕ) → 16 * n ≤ length xs → rest_from h y n (xs ++ ys) ≡ rest_from h y n xs
rest-append n h y xs ys fits = ap (λ (bs : List (List ℕ)). ghash_from h y (map block_number bs)) (blocks-append n xs ys fits)

-- the first blocks, and then the others
pub rest_split : (m n h y : ℕ) (text : List ℕ) → rest_from h y (m + n) text ≡ rest_from h (rest_from h y m text) n (drop (16 * m) text)
unfolding ghash_from blocks
rest_split zero n h y text =
    let same : zero + n ≡ n = omega arith in
    ap (λ (k : ℕ). rest_from h y k text) same
rest_split (suc m) n h y text =
    let more : suc m + n ≡ suc (m + n) = omega arith in
    let place : 16 + 16 * m ≡ 16 * suc m = omega arith in
    let rest : drop (16 * m) (drop 16 text) ≡ drop (16 * suc m) text = drop-drop (16 * m) 16 text ∙ ap (λ (k : ℕ). drop k text) place in
    ap (λ (k : ℕ). rest_from h y k text) more
    ∙ rest_split m n h (block_product (bit_xor y (block_number (take 16 text))) h) (drop 16 text)
    ∙ ap (rest_from h (rest_from h y (suc m) text) n) rest

pub one_block : (h y : ℕ) (text : List ℕ) → rest_from h y 1 text ≡ block_product (bit_xor y (block_number (take 16 text))) h
unfolding ghash_from blocks
one_block h y text = refl

pub value_of_none : (h y n : ℕ) → n ≡ 0 → rest_from h y n [] ≡ y
unfolding ghash_from blocks
value_of_none h y n e = rw e refl
