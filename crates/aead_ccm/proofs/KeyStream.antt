-- The key stream block by block.
use Rattle.aead_ccm.proofs.Common.{List, [], add-one, aes_encrypt, ap, append-nil, append_assoc, ap₂, arith, bit_xor, block_count, block_of_xor, byte_at, byte_at_is, bytes_high_first, ccm_counter_block, ccm_stream, ccm_text, div-eq_of_lt, drop, drop-append-le, drop-drop, drop-replicate, drop_at, in_bytes, length, length-append, length-drop, length-replicate, length-take, length-xor_bytes, masks, number_block, pow-le-pow_right, power_of_256, refl, replicate, suc, sym, take, take-append-drop, to_be_bytes, w128, w64, xor_bytes, xor_bytes-append, xor_bytes_to_end, xor_zero_l, xor_zero_r, zero, ℕ, ◌%◌, ◌*◌, ◌++◌, ◌+◌, ◌-◌, ◌<◌, ◌^◌, ◌∙◌, ◌∷◌, ◌≡◌, ◌≤◌}
use Rattle.crypto_specs.proofs.Blocks.{length-aes_encrypt}
use Rattle.aead_ccm.specs.Lengths.{IsNonceLength, IsPayloadLength}
use Rattle.aead_ccm.proofs.Formats.{last_bytes}

pub length-masks : (key : List ℕ) (first n : ℕ) → length (masks (aes_encrypt key) first n) ≡ 16 * n
unfolding masks
length-masks key first zero = refl
length-masks key first (suc n) =
    let counter : List ℕ = number_block (bit_xor first (n + 1)) in
    omega (arith, length-append (masks (aes_encrypt key) first n) (aes_encrypt key counter), length-masks key first n, length-aes_encrypt key counter)

pub masks_next : (e : List ℕ → List ℕ) (first n : ℕ) → masks e first (n + 1) ≡ masks e first n ++ e (number_block (bit_xor first (n + 1)))
unfolding masks
masks_next e first n = ap (masks e first) (add-one n)

-- ---- the counter blocks of a nonce

-- the bytes of a small number are zeros at the front
zeros_above : (m q x : ℕ) → x < 256 ^ q → take m (bytes_high_first (m + q) x) ≡ replicate m 0
zeros_above zero q x h = refl
zeros_above (suc m) q x h =
    let more : suc m + q ≡ suc (m + q) = omega arith in
    let below : 256 ^ q ≤ 256 ^ (m + q) = pow-le-pow_right {n = 256} (omega arith) {i = q} {j = m + q} (omega arith) in
    let none : byte_at (m + q) x ≡ 0 = byte_at_is (m + q) x ∙ ap (λ (n : ℕ). n % 256) (div-eq_of_lt (omega arith)) in
    ap (λ (k : ℕ). take (suc m) (bytes_high_first k x)) more ∙ ap₂ (λ (b : ℕ) (l : List ℕ). b ∷ l) none (zeros_above m q x h)

xor_zeros_r : (xs : List ℕ) → xor_bytes xs (replicate (length xs) 0) ≡ xs
xor_zeros_r [] = refl
xor_zeros_r (x ∷ xs) = ap₂ (λ (y : ℕ) (l : List ℕ). y ∷ l) (xor_zero_r x) (xor_zeros_r xs)

xor_zeros_l : (xs : List ℕ) → xor_bytes (replicate (length xs) 0) xs ≡ xs
xor_zeros_l [] = refl
xor_zeros_l (x ∷ xs) = ap₂ (λ (y : ℕ) (l : List ℕ). y ∷ l) (xor_zero_l x) (xor_zeros_l xs)

length-in_bytes : (q x : ℕ) → q ≤ 8 → length (in_bytes q x) ≡ q
length-in_bytes q x h = omega (arith, length-drop (8 - q) (to_be_bytes w64 x))

in_bytes_of_0 : (q : ℕ) → q ≤ 8 → in_bytes q 0 ≡ replicate q 0
in_bytes_of_0 q h = drop-replicate (8 - q) 8 0 ∙ ap (λ (n : ℕ). replicate n 0) (omega arith)

-- the block of a number of q bytes
small_block : (n x : ℕ) → 7 ≤ n → n ≤ 13 → x < 256 ^ (15 - n) → number_block x ≡ replicate (suc n) 0 ++ in_bytes (15 - n) x
unfolding number_block
small_block n x low high h =
    let all : List ℕ = to_be_bytes w128 x in
    let sum : 16 ≡ suc n + (15 - n) = omega arith in
    let place : suc n ≡ 1 + n = omega arith in
    let front : take (suc n) all ≡ replicate (suc n) 0 = ap (λ (k : ℕ). take (suc n) (bytes_high_first k x)) sum ∙ zeros_above (suc n) (15 - n) x h in
    let back : drop (suc n) all ≡ in_bytes (15 - n) x = ap (λ (k : ℕ). drop k all) place ∙ sym (drop-drop n 1 all) ∙ last_bytes n x low high in
    sym (take-append-drop (suc n) all) ∙ ap₂ (λ (f b : List ℕ). f ++ b) front back

-- the number i is xored into the zeros of Ctr_0
counter_is : (nonce : List ℕ) (first i : ℕ) → IsNonceLength (length nonce) → number_block first ≡ ccm_counter_block nonce 0 → i < 256 ^ (15 - length nonce)
    → number_block (bit_xor first i) ≡ ccm_counter_block nonce i
unfolding ccm_counter_block
counter_is nonce first i long is_first below =
    let n : ℕ = length nonce in
    let q : ℕ = 15 - n in
    let front : List ℕ = (q - 1) ∷ nonce in
    let last : List ℕ = in_bytes q i in
    let size : length last ≡ q = length-in_bytes q i (omega (arith, long.low)) in
    let zeros : in_bytes q 0 ≡ replicate (length last) 0 = in_bytes_of_0 q (omega (arith, long.low)) ∙ ap (λ (k : ℕ). replicate k 0) (sym size) in
    block_of_xor first i ∙ ap₂ xor_bytes is_first (small_block n i long.low long.high below)
    ∙ xor_bytes-append front (in_bytes q 0) (replicate (suc n) 0) last (omega (arith, length-replicate {A = ℕ} (suc n) 0))
    ∙ ap₂ (λ (a b : List ℕ). a ++ b) (xor_zeros_r front) (ap (λ (z : List ℕ). xor_bytes z last) zeros ∙ xor_zeros_l last)

masks_are : (e : List ℕ → List ℕ) (nonce : List ℕ) (first n : ℕ) → IsNonceLength (length nonce) → number_block first ≡ ccm_counter_block nonce 0 → n < 256 ^ (15 - length nonce)
    → masks e first n ≡ ccm_stream e nonce n
unfolding masks ccm_stream
masks_are e nonce first zero long is_first below = refl
masks_are e nonce first (suc n) long is_first below =
    ap₂ (λ (l b : List ℕ). l ++ e b) (masks_are e nonce first n long is_first (omega arith)) (counter_is nonce first (n + 1) long is_first (omega arith))

-- there are fewer blocks than counters
pub blocks_fit : (n q : ℕ) → 2 ≤ q → n < 2 ^ (8 * q) → block_count n < 256 ^ q
blocks_fit n q h less =
    let same : 256 ^ q ≡ 2 ^ (8 * q) = power_of_256 q in
    let some : 2 ^ 16 ≤ 2 ^ (8 * q) = pow-le-pow_right {n = 2} (omega arith) {i = 16} {j = 8 * q} (omega arith) in
    omega arith

-- a payload under the masks is the payload enciphered
pub text_is : (e : List ℕ → List ℕ) (nonce text out : List ℕ) (first : ℕ) → IsNonceLength (length nonce) → IsPayloadLength (length nonce) (length text) → number_block first ≡ ccm_counter_block nonce 0
    → out ≡ xor_bytes text (masks e first (block_count (length text))) → out ≡ ccm_text e nonce text
unfolding ccm_text
text_is e nonce text out first long fits is_first eo =
    eo ∙ ap (xor_bytes text) (masks_are e nonce first (block_count (length text)) long is_first (blocks_fit (length text) (15 - length nonce) (omega (arith, long.high)) fits))

-- ---- one block of a text under the masks

drop-xor_bytes : (n : ℕ) (xs ys : List ℕ) → drop n (xor_bytes xs ys) ≡ xor_bytes (drop n xs) (drop n ys)
drop-xor_bytes zero xs ys = refl
drop-xor_bytes (suc n) [] ys = refl
drop-xor_bytes (suc n) (x ∷ xs) [] = sym (none_xored (drop n xs))
  where
    none_xored : (l : List ℕ) → xor_bytes l [] ≡ []
    none_xored [] = refl
    none_xored (x ∷ xs) = refl
drop-xor_bytes (suc n) (x ∷ xs) (y ∷ ys) = drop-xor_bytes n xs ys

take-xor_bytes : (n : ℕ) (xs ys : List ℕ) → take n (xor_bytes xs ys) ≡ xor_bytes (take n xs) ys
take-xor_bytes zero xs ys = refl
take-xor_bytes (suc n) [] ys = refl
take-xor_bytes (suc n) (x ∷ xs) [] = refl
take-xor_bytes (suc n) (x ∷ xs) (y ∷ ys) = ap (λ (l : List ℕ). bit_xor x y ∷ l) (take-xor_bytes n xs ys)

-- mask n, and those behind it
masks_from : (key : List ℕ) (first n more : ℕ) → (rest : List ℕ) × (drop (16 * n) (masks (aes_encrypt key) first (n + suc more)) ≡ aes_encrypt key (number_block (bit_xor first (n + 1))) ++ rest)
masks_from key first n zero =
    let e = aes_encrypt key in (
      [],
      ap (λ (k : ℕ). drop (16 * n) (masks e first k)) (omega arith) ∙ ap (drop (16 * n)) (masks_next e first n)
          ∙ drop_at (masks e first n) (e (number_block (bit_xor first (n + 1)))) (16 * n) (length-masks key first n) ∙ sym (append-nil _),
    )
masks_from key first n (suc more) =
    let e = aes_encrypt key in
    let m : ℕ = n + suc more in
    let block : List ℕ = e (number_block (bit_xor first (m + 1))) in
    let before = masks_from key first n more in (
      before.0 ++ block,
      ap (λ (k : ℕ). drop (16 * n) (masks e first k)) (omega arith) ∙ ap (drop (16 * n)) (masks_next e first m)
          ∙ drop-append-le (16 * n) (masks e first m) block (omega (arith, length-masks key first m)) ∙ ap (λ (l : List ℕ). l ++ block) before.1
          ∙ append_assoc (e (number_block (bit_xor first (n + 1)))) before.0 block,
    )

-- what is left of a text under way is what it was
pub left_over : (text now ks : List ℕ) (a : ℕ) → a ≤ length text → length ks ≡ a → now ≡ xor_bytes (take a text) ks ++ drop a text → drop a now ≡ drop a text
left_over text now ks a within long e =
    ap (drop a) e ∙ drop_at (xor_bytes (take a text) ks) (drop a text) a (omega (arith, length-xor_bytes (take a text) ks, length-take a text))

-- and its next piece, once it is xored, is that of the whole text xored
pub piece_is : (key text now piece : List ℕ) (first n end : ℕ) → n < block_count (length text) → end ≤ 16 * n + 16
    → now ≡ xor_bytes (take (16 * n) text) (masks (aes_encrypt key) first n) ++ drop (16 * n) text
    → piece ≡ xor_bytes (take (end - 16 * n) (drop (16 * n) now)) (aes_encrypt key (number_block (bit_xor first (n + 1))))
    → piece ≡ take (end - 16 * n) (drop (16 * n) (xor_bytes text (masks (aes_encrypt key) first (block_count (length text)))))
piece_is key text now piece first n end below within is_now ep =
    let e = aes_encrypt key in
    let all : ℕ = block_count (length text) in
    let block : List ℕ = e (number_block (bit_xor first (n + 1))) in
    let d : List ℕ = drop (16 * n) text in
    let left : drop (16 * n) now ≡ d = left_over text now (masks e first n) (16 * n) (omega arith) (length-masks key first n) is_now in
    let count : n + suc (all - n - 1) ≡ all = omega arith in
    let from = masks_from key first n (all - n - 1) in
    let short : length (take (end - 16 * n) d) ≤ length block = omega (arith, length-take (end - 16 * n) d, length-aes_encrypt key (number_block (bit_xor first (n + 1)))) in
    ep ∙ ap (λ (l : List ℕ). xor_bytes (take (end - 16 * n) l) block) left
    ∙ sym (xor_bytes_to_end (take (end - 16 * n) d) block from.0 short)
    ∙ ap (xor_bytes (take (end - 16 * n) d)) (sym from.1 ∙ ap (λ (k : ℕ). drop (16 * n) (masks e first k)) count)
    ∙ sym (ap (take (end - 16 * n)) (drop-xor_bytes (16 * n) text (masks e first all)) ∙ take-xor_bytes (end - 16 * n) d (drop (16 * n) (masks e first all)))

pub length_xored : (key text : List ℕ) (first : ℕ) → length (xor_bytes text (masks (aes_encrypt key) first (block_count (length text)))) ≡ length text
length_xored key text first =
    let all : ℕ = block_count (length text) in
    omega (arith, length-xor_bytes text (masks (aes_encrypt key) first all), length-masks key first all)
