-- The stream of CCM is a key stream, as far as its counters go.
use Rattle.aead_streams.proofs.Common.{KeepsLength, List, Whole, ap, ap₂, arith, block_count, bytes_high_first, ccm_counter_block, ccm_stream, ccm_text, div-add-mod', div-mul-add, drop, drop_at, in_bytes, length, length-bytes_high_first, mod-eq_of_lt, mod-mul-add, number_block, refl, stream_block, sym, take, take_at, text_xor, ℕ, ◌%◌, ◌*◌, ◌++◌, ◌+◌, ◌-◌, ◌/◌, ◌<◌, ◌^◌, ◌∙◌, ◌∷◌, ◌≡◌, ◌≤◌}
use Rattle.aead_ccm.proofs.KeyStream.{blocks_fit}
use Rattle.aead_streams.proofs.{HighFirst.high_and_low, HighFirst.same_bytes, HighFirst.same_remainder, ModeStreams.text_is}

-- a number in q bytes, which are at most 8
in_bytes_is : (q x : ℕ) → q ≤ 8 → in_bytes q x ≡ bytes_high_first q x
in_bytes_is q x h =
    let parts : 8 ≡ (8 - q) + q = omega arith in
    ap (λ (n : ℕ). drop (8 - q) (bytes_high_first n x)) parts ∙ ap (drop (8 - q)) (high_and_low (8 - q) q x)
    ∙ drop_at (bytes_high_first (8 - q) (x / 256 ^ q)) (bytes_high_first q x) (8 - q) (length-bytes_high_first (8 - q) (x / 256 ^ q))

number_is : (h q x : ℕ) → h + q ≡ 16 → number_block x ≡ bytes_high_first h (x / 256 ^ q) ++ bytes_high_first q x
unfolding number_block
number_is h q x e = ap (λ (n : ℕ). bytes_high_first n x) (sym e) ∙ high_and_low h q x

-- a block that ends in the number 1, counted up
counted_up : (front : List ℕ) (q start n : ℕ) → length front + q ≡ 16 → n + 1 < 256 ^ q → number_block start ≡ front ++ bytes_high_first q 1
    → number_block (start + n) ≡ front ++ bytes_high_first q (n + 1)
counted_up front q start n sum below e =
    let h : ℕ = length front in
    let p : ℕ = 256 ^ q in
    let high : List ℕ = bytes_high_first h (start / p) in
    let long : length high ≡ h = length-bytes_high_first h (start / p) in
    let parts : high ++ bytes_high_first q start ≡ front ++ bytes_high_first q 1 = sym (number_is h q start sum) ∙ e in
    let first : high ≡ front = sym (take_at high (bytes_high_first q start) h long) ∙ ap (take h) parts ∙ take_at front (bytes_high_first q 1) h refl in
    let last : bytes_high_first q start ≡ bytes_high_first q 1 = sym (drop_at high (bytes_high_first q start) h long) ∙ ap (drop h) parts ∙ drop_at front (bytes_high_first q 1) h refl in
    let one : 1 % p ≡ 1 = mod-eq_of_lt (omega arith) in
    let remainder : start % p ≡ 1 = same_remainder q start 1 last ∙ one in
    let split : start + n ≡ start / p * p + (n + 1) = omega (arith, div-add-mod' start p) in
    let quotient : (start + n) / p ≡ start / p = ap (λ (x : ℕ). x / p) split ∙ div-mul-add (start / p) p (n + 1) below in
    let rest : (start + n) % p ≡ (n + 1) % p = ap (λ (x : ℕ). x % p) split ∙ mod-mul-add (start / p) p (n + 1) below ∙ sym (mod-eq_of_lt below) in
    number_is h q (start + n) sum ∙ ap₂ (λ (a b : List ℕ). a ++ b) (ap (bytes_high_first h) quotient ∙ first) (same_bytes q (start + n) (n + 1) rest)

wrapped : (x : ℕ) → number_block (x % 2 ^ 128) ≡ number_block x
unfolding number_block
wrapped x = same_bytes 16 (x % 2 ^ 128) x (omega arith)

next_counter : (nonce : List ℕ) (start n : ℕ) → 7 ≤ length nonce → length nonce ≤ 13 → number_block start ≡ ccm_counter_block nonce 1 → n + 1 < 256 ^ (15 - length nonce)
    → number_block ((start + n) % 2 ^ 128) ≡ ccm_counter_block nonce (n + 1)
unfolding ccm_counter_block
next_counter nonce start n low high e below =
    let q : ℕ = 15 - length nonce in
    let front : List ℕ = (q - 1) ∷ nonce in
    wrapped (start + n)
    ∙ counted_up front q start n (omega arith) below (e ∙ ap (λ (l : List ℕ). front ++ l) (in_bytes_is q 1 (omega arith)))
    ∙ ap (λ (l : List ℕ). front ++ l) (sym (in_bytes_is q (n + 1) (omega arith)))

module _ (e : List ℕ → List ℕ) (keeps : KeepsLength e) (nonce : List ℕ) (low : 7 ≤ length nonce) (high : length nonce ≤ 13) where
  -- from the number of the first counter block
  pub ccm_is_from : (start : ℕ) (text : List ℕ) → number_block start ≡ ccm_counter_block nonce 1 → length text < 2 ^ (8 * (15 - length nonce)) → ccm_text e nonce text ≡ text_xor e Whole start 0 text
  unfolding ccm_text ccm_stream stream_block
  ccm_is_from start text first fits =
      let count : ℕ = block_count (length text) in
      let below : count < 256 ^ (15 - length nonce) = blocks_fit (length text) (15 - length nonce) (omega arith) fits in
      text_is e keeps Whole start count (ccm_stream e nonce) refl
      (λ n h. ap (λ (b : List ℕ). ccm_stream e nonce n ++ e b) (sym (next_counter nonce start n low high first (omega arith)))) text (omega arith)
