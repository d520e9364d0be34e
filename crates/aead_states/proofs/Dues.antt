-- More text only adds to the output that is due.
use Rattle.std.proofs.Common.{Bool, List, [], ap, append_assoc, ap₂, arith, bit_xor, cond, false, length, refl, suc, sym, take, true, zero, ℕ, ◌*◌, ◌++◌, ◌+◌, ◌-◌, ◌∙◌, ◌∷◌, ◌≡◌, ◌≤◌}
use Rattle.std.proofs.lemmas.List.{append-nil, length-append}
use Rattle.crypto_specs.specs.Prelude.{aes_encrypt, xor_bytes, block_count, number_block, ccm_counter_block, ccm_stream, ccm_text, increased, initial_counter_block, gcm_stream, gcm_text}
use Rattle.crypto_specs.proofs.{Blocks.length-aes_encrypt, XorBytes.length-xor_bytes}
use Rattle.store_model.specs.Prelude.{bytes_or_empty, is_ccm, aead_due, with_payload}
use Rattle.multipart.specs.Dues.{DueGrows}

-- a text that goes on, under a mask that goes on
xor_begins : (text piece mask rest : List ℕ) → length text ≤ length mask → take (length text) (xor_bytes (text ++ piece) (mask ++ rest)) ≡ xor_bytes text mask
xor_begins [] piece mask rest h = refl
xor_begins (x ∷ xs) piece [] rest h = absurd (omega arith)
xor_begins (x ∷ xs) piece (m ∷ ms) rest h = ap (λ (l : List ℕ). bit_xor x m ∷ l) (xor_begins xs piece ms rest (omega arith))

-- a stream that grows by whole blocks
module _ (stream block : ℕ → List ℕ) (none : stream 0 ≡ []) (more : (n : ℕ) → stream (suc n) ≡ stream n ++ block n) (long : (n : ℕ) → length (block n) ≡ 16) where
  length-stream : (n : ℕ) → length (stream n) ≡ 16 * n
  length-stream zero = ap length none
  length-stream (suc n) = omega (arith, ap length (more n), length-append (stream n) (block n), length-stream n, long n)

  stream_add : (n k : ℕ) → (rest : List ℕ) × (stream (n + k) ≡ stream n ++ rest)
  stream_add n zero = let e : n + zero ≡ n = omega arith in ([], ap stream e ∙ sym (append-nil (stream n)))
  stream_add n (suc k) =
      let e : n + suc k ≡ suc (n + k) = omega arith in
      let less : (rest : List ℕ) × (stream (n + k) ≡ stream n ++ rest) = stream_add n k in
      (less.0 ++ block (n + k), ap stream e ∙ more (n + k) ∙ ap (λ (l : List ℕ). l ++ block (n + k)) less.1 ∙ append_assoc (stream n) less.0 (block (n + k)))

  text_grows : (text piece : List ℕ)
      → take (length (xor_bytes text (stream (block_count (length text))))) (xor_bytes (text ++ piece) (stream (block_count (length (text ++ piece))))) ≡ xor_bytes text (stream (block_count (length text)))
  text_grows text piece =
      let n : ℕ = block_count (length text) in
      let m : ℕ = block_count (length (text ++ piece)) in
      let mask : List ℕ = stream n in
      let further : (rest : List ℕ) × (stream (n + (m - n)) ≡ mask ++ rest) = stream_add n (m - n) in
      let e : m ≡ n + (m - n) = omega (arith, length-append text piece) in
      let enough : length text ≤ length mask = omega (arith, length-stream n) in
      let same : length (xor_bytes text mask) ≡ length text = omega (arith, length-xor_bytes text mask) in
      ap₂ (λ (k : ℕ) (l : List ℕ). take k (xor_bytes (text ++ piece) l)) same (ap stream e ∙ further.1) ∙ xor_begins text piece mask further.0 enough

module _ (key nonce text piece : List ℕ) where
  abbrev e : List ℕ → List ℕ
  e = aes_encrypt key

  ccm_grows : take (length (ccm_text e nonce text)) (ccm_text e nonce (text ++ piece)) ≡ ccm_text e nonce text
  unfolding ccm_text ccm_stream
  ccm_grows = text_grows (ccm_stream e nonce) (λ n. e (ccm_counter_block nonce (n + 1))) refl (λ n. refl) (λ n. length-aes_encrypt key (ccm_counter_block nonce (n + 1))) text piece

  gcm_grows : take (length (gcm_text e nonce text)) (gcm_text e nonce (text ++ piece)) ≡ gcm_text e nonce text
  unfolding gcm_text gcm_stream
  gcm_grows =
      let y : ℕ = initial_counter_block e nonce in
      text_grows (gcm_stream e y) (λ n. e (number_block (increased y (n + 1)))) refl (λ n. refl) (λ n. length-aes_encrypt key (number_block (increased y (n + 1)))) text piece

  either : (ccm : Bool) → take (length (cond ccm (ccm_text e nonce text) (gcm_text e nonce text))) (cond ccm (ccm_text e nonce (text ++ piece)) (gcm_text e nonce (text ++ piece)))
      ≡ cond ccm (ccm_text e nonce text) (gcm_text e nonce text)
  either true = ccm_grows
  either false = gcm_grows

pub due_grows : DueGrows aead_due with_payload
due_grows w input = either w.key (bytes_or_empty w.nonce) w.text input (is_ccm w.alg)
