-- Counter blocks that are enciphered each by itself.
use Rattle.std.proofs.{Common.List, Common.[], Common.ap, Common.ap₂, Common.arith, Common.drop, Common.length, Common.map, Common.suc, Common.sym, Common.take, Common.zero, Common.ℕ, Common.◌%◌, Common.◌*◌, Common.◌++◌, Common.◌+◌, Common.◌/◌, Common.◌<◌, Common.◌^◌, Common.◌∙◌, Common.◌∷◌, Common.◌≡◌, lemmas.Grind.flat_map-append}
use Rattle.secure_element_calls.proofs.Common.{append-nil, blocks, counter_block, counter_block_is, drop-append-le, ecb_encrypt, joined, key_stream, key_stream_next, length-append, length-drop, length-number_block, map-append, nil_from_length, number_block, number_of_block, take-append-le, take_all}

-- one more block
blocks_more : (n : ℕ) (xs b : List ℕ) → length xs ≡ 16 * n → length b ≡ 16 → blocks (suc n) (xs ++ b) ≡ blocks n xs ++ b ∷ []
unfolding blocks
blocks_more zero xs b e f = ap (λ l. take 16 (l ++ b) ∷ []) (nil_from_length xs (omega arith)) ∙ ap (λ l. l ∷ []) (take_all 16 b (omega arith))
blocks_more (suc n) xs b e f =
    ap₂ (λ (p : List ℕ) (q : List (List ℕ)). p ∷ q) (take-append-le 16 xs b (omega arith))
    (ap (blocks (suc n)) (drop-append-le 16 xs b (omega arith)) ∙ blocks_more n (drop 16 xs) b (omega (arith, length-drop 16 xs)) f)

joined_more : (e : List ℕ → List ℕ) (bs : List (List ℕ)) (b : List ℕ) → joined (map e (bs ++ b ∷ [])) ≡ joined (map e bs) ++ e b
joined_more e bs b =
    ap joined (map-append e bs (b ∷ [])) ∙ flat_map-append (λ (l : List ℕ). l) (map e bs) (e b ∷ []) ∙ ap (λ (l : List ℕ). joined (map e bs) ++ l) (append-nil (e b))

ecb_more : (e : List ℕ → List ℕ) (n : ℕ) (xs b : List ℕ) → length xs ≡ 16 * n → length b ≡ 16 → ecb_encrypt e (xs ++ b) ≡ ecb_encrypt e xs ++ e b
unfolding ecb_encrypt
ecb_more e n xs b long block =
    let count : length (xs ++ b) / 16 ≡ suc n = omega (arith, length-append xs b) in
    let before : n ≡ length xs / 16 = omega arith in
    ap (λ k. joined (map e (blocks k (xs ++ b)))) count ∙ ap (λ bs. joined (map e bs)) (blocks_more n xs b long block)
    ∙ joined_more e (blocks n xs) b ∙ ap (λ k. joined (map e (blocks k xs)) ++ e b) before

-- the next counter block is the next of the stream
pub next_counter : (e : List ℕ → List ℕ) (start counter n : ℕ) (xs ys : List ℕ) → start < 2 ^ 128 → counter ≡ (start + n) % 2 ^ 128 → length xs ≡ 16 * n →
    ys ≡ xs ++ number_block counter → ecb_encrypt e xs ≡ key_stream e (number_block start) n → ecb_encrypt e ys ≡ key_stream e (number_block start) (n + 1)
next_counter e start counter n xs ys below at long is before =
    let block : number_block counter ≡ counter_block (number_block start) n =
    counter_block_is (number_block start) n counter (at ∙ ap (λ s. (s + n) % 2 ^ 128) (sym (number_of_block start below))) in
    ap (ecb_encrypt e) is ∙ ecb_more e n xs (number_block counter) long (length-number_block counter)
    ∙ ap₂ (λ (p q : List ℕ). p ++ q) before (ap e block) ∙ sym (key_stream_next e (number_block start) n)
