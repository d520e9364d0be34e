-- Laws of the key stream.
use Rattle.aead_streams.proofs.Common.{CounterWidth, List, [], ap, ap₂, arith, bit_xor, byte_of_stream, drop, drop_at, length, refl, slice_index, suc, text_xor, xor_bytes, ℕ, ◌++◌, ◌+◌, ◌<◌, ◌∙◌, ◌∷◌, ◌≡◌, ◌≤◌}

module _ (e : List ℕ → List ℕ) (width : CounterWidth) (start : ℕ) where
  -- any cutting: the second part goes on where the first ended
  pub text_xor-append : (xs ys : List ℕ) (n : ℕ) → text_xor e width start n (xs ++ ys) ≡ text_xor e width start n xs ++ text_xor e width start (n + length xs) ys
  unfolding text_xor
  text_xor-append [] ys n = ap (λ (m : ℕ). text_xor e width start m ys) (omega arith)
  text_xor-append (x ∷ xs) ys n =
      ap (λ (l : List ℕ). bit_xor x (byte_of_stream e width start n) ∷ l) (text_xor-append xs ys (suc n)
      ∙ ap (λ (m : ℕ). text_xor e width start (suc n) xs ++ text_xor e width start m ys) (omega arith))

  pub length-text_xor : (n : ℕ) (text : List ℕ) → length (text_xor e width start n text) ≡ length text
  unfolding text_xor
  length-text_xor n [] = refl
  length-text_xor n (x ∷ xs) = ap suc (length-text_xor (suc n) xs)

  -- what a further piece gives
  pub further_piece : (before piece : List ℕ) (n : ℕ) → drop (length before) (text_xor e width start n (before ++ piece)) ≡ text_xor e width start (n + length before) piece
  further_piece before piece n =
      ap (drop (length before)) (text_xor-append before piece n)
      ∙ drop_at (text_xor e width start n before) (text_xor e width start (n + length before) piece) (length before) (length-text_xor n before)

  -- the xor with some bytes is that with the stream, where these are its bytes
  pub by_byte : (text mask : List ℕ) (n : ℕ) → length text ≤ length mask → ((i : ℕ) → i < length text → slice_index mask i ≡ byte_of_stream e width start (n + i))
      → xor_bytes text mask ≡ text_xor e width start n text
  unfolding text_xor
  by_byte [] mask n h at = refl
  by_byte (x ∷ xs) [] n h at = absurd (omega arith)
  by_byte (x ∷ xs) (m ∷ ms) n h at =
      ap₂ (λ (a : ℕ) (l : List ℕ). bit_xor x a ∷ l) (at 0 (omega arith) ∙ ap (byte_of_stream e width start) (omega arith))
      (by_byte xs ms (suc n) (omega arith) (λ i lt. at (suc i) (omega arith) ∙ ap (byte_of_stream e width start) (omega arith)))
