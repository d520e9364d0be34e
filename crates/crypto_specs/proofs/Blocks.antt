-- Laws of blocks that the proofs of the algorithms share.
use Rattle.std.proofs.Common.{List, [], ap, ap₂, arith, drop, length, refl, replicate, slice_index, suc, take, zero, ℕ, ◌*◌, ◌++◌, ◌∙◌, ◌∷◌, ◌≡◌, ◌≤◌}
use Rattle.crypto_specs.proofs.Common.{aes_encrypt, block_number, blocks, drop-append-le, joined, length-drop, number_block, take-append-drop, take-append-le}

pub length-number_block : (n : ℕ) → length (number_block n) ≡ 16
unfolding number_block
length-number_block n = refl

pub length-aes_encrypt : (key block : List ℕ) → length (aes_encrypt key block) ≡ 16
unfolding aes_encrypt
length-aes_encrypt key block = refl

-- what comes later changes no earlier block
pub blocks-append : (n : ℕ) (xs ys : List ℕ) → 16 * n ≤ length xs → blocks n (xs ++ ys) ≡ blocks n xs
unfolding blocks
blocks-append zero xs ys h = refl
blocks-append (suc n) xs ys h =
    let front : take 16 (xs ++ ys) ≡ take 16 xs = take-append-le 16 xs ys (omega arith) in
    let back : drop 16 (xs ++ ys) ≡ drop 16 xs ++ ys = drop-append-le 16 xs ys (omega arith) in
    ap₂ (λ (b : List ℕ) (bs : List (List ℕ)). b ∷ bs) front (ap (blocks n) back ∙ blocks-append n (drop 16 xs) ys (omega (arith, length-drop 16 xs)))

pub blocks_joined : (n : ℕ) (text : List ℕ) → length text ≡ 16 * n → joined (blocks n text) ≡ text
unfolding blocks
blocks_joined zero [] e = refl
blocks_joined zero (x ∷ xs) e = absurd (omega arith)
blocks_joined (suc n) text e = ap (λ (l : List ℕ). take 16 text ++ l) (blocks_joined n (drop 16 text) (omega (arith, length-drop 16 text))) ∙ take-append-drop 16 text

pub length-blocks : (n : ℕ) (text : List ℕ) → length (blocks n text) ≡ n
unfolding blocks
length-blocks zero text = refl
length-blocks (suc n) text = ap suc (length-blocks n (drop 16 text))

zeros_read : (n i : ℕ) → slice_index (replicate n 0) i ≡ 0
zeros_read zero i = refl
zeros_read (suc n) zero = refl
zeros_read (suc n) (suc i) = zeros_read n i

-- zeros after the end read as what is past the end
filled_read : (piece : List ℕ) (n i : ℕ) → slice_index (piece ++ replicate n 0) i ≡ slice_index piece i
filled_read [] n i = zeros_read n i
filled_read (x ∷ xs) n zero = refl
filled_read (x ∷ xs) n (suc i) = filled_read xs n i

-- so they leave a block's number
pub number_of_filled : (piece : List ℕ) (n : ℕ) → block_number (piece ++ replicate n 0) ≡ block_number piece
unfolding block_number
number_of_filled piece n =
    let at : (i : ℕ) → slice_index (piece ++ replicate n 0) i ≡ slice_index piece i = filled_read piece n in
    rw (at 0, at 1, at 2, at 3, at 4, at 5, at 6, at 7, at 8, at 9, at 10, at 11, at 12, at 13, at 14, at 15) refl
