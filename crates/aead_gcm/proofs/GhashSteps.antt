-- GHASH block by block.
use Rattle.aead_gcm.proofs.Common.{List, [], ap, ap₂, arith, bit_xor, block_count, block_number, block_product, blocks, drop, drop-drop, ghash_from, ghash_of, length, length-drop, length_block, map, min, numbers_of, refl, suc, sym, take, take_min, ℕ, ◌*◌, ◌++◌, ◌+◌, ◌-◌, ◌<◌, ◌∙◌, ◌∷◌, ◌≡◌}

-- GHASH of the n blocks that are left of a text
abbrev pub rest_from : ℕ → ℕ → ℕ → List ℕ → ℕ
rest_from h y n text = ghash_from h y (map block_number (blocks n text))

pub block_taken : (h y x r n end : ℕ) (text : List ℕ) → n < block_count (length text) → end ≡ min (length text) (16 * n + 16)
    → x ≡ block_number (take (end - 16 * n) (drop (16 * n) text))
    → rest_from h y (block_count (length text) - n) (drop (16 * n) text) ≡ r
    → rest_from h (block_product (bit_xor y x) h) (block_count (length text) - (n + 1)) (drop (16 * (n + 1)) text) ≡ r
unfolding ghash_from blocks
block_taken h y x r n end text below e ex so_far =
    let m : ℕ = block_count (length text) - (n + 1) in
    let d : List ℕ = drop (16 * n) text in
    let here : block_count (length text) - n ≡ suc m = omega arith in
    let next : drop (16 * (n + 1)) text ≡ drop 16 d = ap (λ (k : ℕ). drop k text) (omega arith) ∙ sym (drop-drop 16 (16 * n) text) in
    let count : end - 16 * n ≡ min 16 (length d) = omega (arith, length-drop (16 * n) text) in
    let whole : x ≡ block_number (take 16 d) = ex ∙ ap block_number (ap (λ (k : ℕ). take k d) count ∙ take_min 16 d) in
    ap₂ (λ (z : ℕ) (l : List ℕ). rest_from h (block_product (bit_xor y z) h) m l) whole next
    ∙ ap (λ (k : ℕ). rest_from h y k d) (sym here) ∙ so_far

pub all_taken : (h y r n : ℕ) (d : List ℕ) → n ≡ 0 → rest_from h y n d ≡ r → y ≡ r
unfolding ghash_from blocks
all_taken h y r n d en e = rw en at e

ghash_from-append : (h y : ℕ) (xs ys : List ℕ) → ghash_from h y (xs ++ ys) ≡ ghash_from h (ghash_from h y xs) ys
unfolding ghash_from
ghash_from-append h y [] ys = refl
ghash_from-append h y (x ∷ xs) ys = ghash_from-append h (block_product (bit_xor y x) h) xs ys

-- the running values: of no blocks, after each text, and after the lengths
pub in_turn : (h c l : ℕ) (start one two three : ℕ × ℕ) (ad text : List ℕ) → start ≡ (h, 0) → one ≡ (start.0, ghash_from start.0 start.1 (numbers_of ad))
    → two ≡ (one.0, ghash_from one.0 one.1 (numbers_of text)) → three ≡ (two.0, block_product (bit_xor two.1 l) two.0)
    → l ≡ length_block (length ad) (length text) → c ≡ three.1 → c ≡ ghash_of h ad text
unfolding ghash_of ghash_from
in_turn h c l start one two three ad text es e1 e2 e3 el ec =
    let key1 : one.0 ≡ h = ap (λ (p : ℕ × ℕ). p.0) e1 ∙ ap (λ (p : ℕ × ℕ). p.0) es in
    let key2 : two.0 ≡ h = ap (λ (p : ℕ × ℕ). p.0) e2 ∙ key1 in
    let a : one.1 ≡ ghash_from h 0 (numbers_of ad) = ap (λ (p : ℕ × ℕ). p.1) e1 ∙ ap (λ (p : ℕ × ℕ). ghash_from p.0 p.1 (numbers_of ad)) es in
    let b : two.1 ≡ ghash_from h one.1 (numbers_of text) = ap (λ (p : ℕ × ℕ). p.1) e2 ∙ ap (λ (k : ℕ). ghash_from k one.1 (numbers_of text)) key1 in
    let both : two.1 ≡ ghash_from h 0 (numbers_of ad ++ numbers_of text) = b ∙ ap (λ (y : ℕ). ghash_from h y (numbers_of text)) a ∙ sym (ghash_from-append h 0 (numbers_of ad) (numbers_of text)) in
    ec ∙ ap (λ (p : ℕ × ℕ). p.1) e3 ∙ ap (λ (k : ℕ). block_product (bit_xor two.1 l) k) key2
    ∙ ap₂ (λ (y x : ℕ). block_product (bit_xor y x) h) both el
    ∙ sym (ghash_from-append h 0 (numbers_of ad ++ numbers_of text) (length_block (length ad) (length text) ∷ []))
