-- The tag of a text, and the text.
use Rattle.aead_gcm.proofs.Common.{List, ap, ap₂, block_count, gcm_stream, gcm_tag, gcm_text, ghash_of, hash_subkey, initial_counter_block, length, number_block, take, xor_bytes, ℕ, ◌∙◌, ◌≡◌}

pub tag_is : (e : List ℕ → List ℕ) (nonce ad text whole : List ℕ) (h y t : ℕ) → h ≡ hash_subkey e → (h ≡ hash_subkey e → y ≡ initial_counter_block e nonce)
    → whole ≡ xor_bytes (e (number_block y)) (number_block (ghash_of h ad text)) → take t whole ≡ gcm_tag e t nonce ad text
unfolding gcm_tag
tag_is e nonce ad text whole h y t eh ey ew =
    ap (take t) (ew ∙ ap₂ (λ (y k : ℕ). xor_bytes (e (number_block y)) (number_block (ghash_of k ad text))) (ey eh) eh)

pub text_is : (e : List ℕ → List ℕ) (nonce text out : List ℕ) (y : ℕ) → y ≡ initial_counter_block e nonce → out ≡ xor_bytes text (gcm_stream e y (block_count (length text))) → out ≡ gcm_text e nonce text
unfolding gcm_text
text_is e nonce text out y ey eo = eo ∙ ap (λ (y : ℕ). xor_bytes text (gcm_stream e y (block_count (length text)))) ey
