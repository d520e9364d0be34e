-- The streams of CTR and GCM are key streams.
use Rattle.aead_streams.proofs.Common.{CounterWidth, KeepsLength, List, Low32, Whole, [], aes_encrypt, ap, ap₂, arith, block_count, block_number, byte_of_stream, cases_lt, counter_at, counter_block, ctr_xor, drop, gcm_stream, gcm_text, get_or-append_right, get_or_append_left, increased, initial_counter_block, inl, inr, key_stream, length, length-aes_encrypt, length-append, length-number_block, number_block, refl, slice_index, stream_block, suc, text_xor, xor_bytes, zero, ℕ, ◌%◌, ◌*◌, ◌++◌, ◌+◌, ◌-◌, ◌/◌, ◌<◌, ◌∙◌, ◌≡◌, ◌≤◌}
use Rattle.aead_streams.proofs.StreamLaws.{by_byte, further_piece}

pub aes_keeps_length : (key : List ℕ) → KeepsLength (aes_encrypt key)
aes_keeps_length key b long = length-aes_encrypt key b

-- a stream that grows by the blocks of a key stream, up to a limit
module _ (e : List ℕ → List ℕ) (keeps : KeepsLength e) (width : CounterWidth) (start limit : ℕ) (stream : ℕ → List ℕ) (none : stream 0 ≡ [])
    (more : (n : ℕ) → n < limit → stream (suc n) ≡ stream n ++ stream_block e width start n) where
  length-block : (n : ℕ) → length (stream_block e width start n) ≡ 16
  unfolding stream_block
  length-block n = keeps (number_block (counter_at width start n)) (length-number_block (counter_at width start n))

  length-stream : (n : ℕ) → n ≤ limit → length (stream n) ≡ 16 * n
  length-stream zero h = ap length none
  length-stream (suc n) h =
      omega (arith, ap length (more n (omega arith)), length-append (stream n) (stream_block e width start n), length-stream n (omega arith), length-block n)

  byte_is : (n j : ℕ) → n ≤ limit → j < 16 * n → slice_index (stream n) j ≡ byte_of_stream e width start j
  unfolding byte_of_stream
  byte_is zero j le h = absurd (omega arith)
  byte_is (suc n) j le h = ap (λ (l : List ℕ). slice_index l j) (more n (omega arith)) ∙ elim (cases_lt j (16 * n)) [
    | inl lt ↦ get_or_append_left (stream n) (stream_block e width start n) 0 j (omega (arith, length-stream n (omega arith))) ∙ byte_is n j (omega arith) lt
    | inr ge ↦
        let row : n ≡ j / 16 = omega arith in
        let place : j - 16 * n ≡ j % 16 = omega arith in
        get_or-append_right (stream n) (stream_block e width start n) (16 * n) j 0 (length-stream n (omega arith)) ge
        ∙ ap₂ (λ (m i : ℕ). slice_index (stream_block e width start m) i) row place
  ]

  -- a text under its front
  pub text_is : (text : List ℕ) → block_count (length text) ≤ limit → xor_bytes text (stream (block_count (length text))) ≡ text_xor e width start 0 text
  text_is text h =
      let n : ℕ = block_count (length text) in
      by_byte e width start text (stream n) 0 (omega (arith, length-stream n h)) (λ i lt. byte_is n i h (omega arith) ∙ ap (byte_of_stream e width start) (omega arith))

module _ (e : List ℕ → List ℕ) (keeps : KeepsLength e) where
  -- CTR
  pub ctr_is : (iv text : List ℕ) → ctr_xor e iv text ≡ text_xor e Whole (block_number iv) 0 text
  unfolding ctr_xor key_stream counter_block stream_block
  ctr_is iv text = text_is e keeps Whole (block_number iv) (block_count (length text)) (key_stream e iv) refl (λ n h. refl) text (omega arith)

  pub ctr_further : (iv before piece : List ℕ) → drop (length before) (ctr_xor e iv (before ++ piece)) ≡ text_xor e Whole (block_number iv) (length before) piece
  ctr_further iv before piece = ap (drop (length before)) (ctr_is iv (before ++ piece)) ∙ further_piece e Whole (block_number iv) before piece 0 ∙ ap (λ (n : ℕ). text_xor e Whole (block_number iv) n piece) (omega arith)

  -- GCM
  increased_twice : (y n : ℕ) → increased y (n + 1) ≡ increased (increased y 1) n
  unfolding increased
  increased_twice y n = omega arith

  gcm_is_from : (y : ℕ) (text : List ℕ) → xor_bytes text (gcm_stream e y (block_count (length text))) ≡ text_xor e Low32 (increased y 1) 0 text
  unfolding gcm_stream stream_block
  gcm_is_from y text =
      text_is e keeps Low32 (increased y 1) (block_count (length text)) (gcm_stream e y) refl
      (λ n h. ap (λ (k : ℕ). gcm_stream e y n ++ e (number_block k)) (increased_twice y n)) text (omega arith)

  pub gcm_is : (nonce text : List ℕ) → gcm_text e nonce text ≡ text_xor e Low32 (increased (initial_counter_block e nonce) 1) 0 text
  unfolding gcm_text
  gcm_is nonce text = gcm_is_from (initial_counter_block e nonce) text
