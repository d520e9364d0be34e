-- The key stream byte by byte.
use Rattle.std.proofs.Common.{List, [], ap, ap₂, arith, bit_xor, inl, inr, length, refl, slice_index, suc, zero, ℕ, ◌%◌, ◌*◌, ◌++◌, ◌+◌, ◌-◌, ◌/◌, ◌<◌, ◌∙◌, ◌∷◌, ◌≡◌, ◌≤◌}
use Rattle.crypto_specs.proofs.Common.{block_count, cases_lt, counter_block, ctr_xor, get_or-append_right, get_or_append_left, key_stream, length-append, stream_byte, xor_bytes, xor_stream}

-- any cutting: the second part goes on where the first ended
pub xor_stream_of_parts : (e : List ℕ → List ℕ) (iv xs ys : List ℕ) (j : ℕ) → xor_stream e iv j (xs ++ ys) ≡ xor_stream e iv j xs ++ xor_stream e iv (j + length xs) ys
unfolding xor_stream
xor_stream_of_parts e iv [] ys j = ap (λ (n : ℕ). xor_stream e iv n ys) (omega arith)
xor_stream_of_parts e iv (x ∷ xs) ys j =
    ap (λ (l : List ℕ). bit_xor x (stream_byte e iv j) ∷ l) (xor_stream_of_parts e iv xs ys (suc j)
    ∙ ap (λ (n : ℕ). xor_stream e iv (suc j) xs ++ xor_stream e iv n ys) (omega arith))

-- where each counter block is enciphered to 16 bytes
module _ (e : List ℕ → List ℕ) (iv : List ℕ) (long : (n : ℕ) → length (e (counter_block iv n)) ≡ 16) where
  pub length-blocks_of_stream : (n : ℕ) → length (key_stream e iv n) ≡ 16 * n
  unfolding key_stream
  length-blocks_of_stream zero = refl
  length-blocks_of_stream (suc n) = omega (arith, length-append (key_stream e iv n) (e (counter_block iv n)), length-blocks_of_stream n, long n)

  pub byte_of_blocks : (n j : ℕ) → j < 16 * n → slice_index (key_stream e iv n) j ≡ stream_byte e iv j
  unfolding key_stream stream_byte
  byte_of_blocks zero j h = absurd (omega arith)
  byte_of_blocks (suc n) j h = elim (cases_lt j (16 * n)) [
    | inl lt ↦ get_or_append_left (key_stream e iv n) (e (counter_block iv n)) 0 j (omega (arith, length-blocks_of_stream n)) ∙ byte_of_blocks n j lt
    | inr ge ↦
        let row : n ≡ j / 16 = omega arith in
        let place : j - 16 * n ≡ j % 16 = omega arith in
        get_or-append_right (key_stream e iv n) (e (counter_block iv n)) (16 * n) j 0 (length-blocks_of_stream n) ge
        ∙ ap₂ (λ (m i : ℕ). slice_index (e (counter_block iv m)) i) row place
  ]

  by_byte : (text stream : List ℕ) (j : ℕ) → length text ≤ length stream → ((i : ℕ) → i < length text → slice_index stream i ≡ stream_byte e iv (j + i)) → xor_bytes text stream ≡ xor_stream e iv j text
  unfolding xor_stream
  by_byte [] stream j h at = refl
  by_byte (x ∷ xs) [] j h at = absurd (omega arith)
  by_byte (x ∷ xs) (s ∷ stream) j h at =
      ap₂ (λ (a : ℕ) (l : List ℕ). bit_xor x a ∷ l) (at 0 (omega arith) ∙ ap (stream_byte e iv) (omega arith))
      (by_byte xs stream (suc j) (omega arith) (λ i lt. at (suc i) (omega arith) ∙ ap (stream_byte e iv) (omega arith)))

  -- CTR is the xor with the key stream from its first byte on
  pub ctr_by_blocks : (text : List ℕ) → ctr_xor e iv text ≡ xor_stream e iv 0 text
  unfolding ctr_xor
  ctr_by_blocks text =
      let n : ℕ = block_count (length text) in
      by_byte text (key_stream e iv n) 0 (omega (arith, length-blocks_of_stream n))
      (λ i lt. byte_of_blocks n i (omega arith) ∙ ap (stream_byte e iv) (omega arith))

-- the same, where every list is enciphered to 16 bytes
pub length-key_stream : (e : List ℕ → List ℕ) → ((b : List ℕ) → length (e b) ≡ 16) → (iv : List ℕ) (n : ℕ) → length (key_stream e iv n) ≡ 16 * n
length-key_stream e long iv n = length-blocks_of_stream e iv (λ k. long (counter_block iv k)) n
