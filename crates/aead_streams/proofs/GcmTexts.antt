-- The text and the tag of GCM, part by part.
use Rattle.aead_streams.proofs.Common.{List, Low32, aes_encrypt, ap, ap₂, arith, bit_xor, block_of_xor, block_product, gcm_tag, gcm_text, ghash_from, ghash_of, hash_subkey, in_turn, increased, initial_counter_block, length, length_block, number_block, numbers_of, refl, sym, take, text_xor, xor_bytes, ℕ, ◌++◌, ◌+◌, ◌∙◌, ◌≡◌}
use Rattle.aead_gcm.proofs.Tags.{tag_is}
use Rattle.aead_streams.proofs.{ModeStreams.aes_keeps_length, ModeStreams.gcm_is, StreamLaws.text_xor-append, StreamLaws.length-text_xor}
use Rattle.aead_streams.specs.{GcmStates.HoldsGcmText, declared.gcm_state.GcmState.GcmState}

-- the next piece goes on where the text before it ended
pub further : (key nonce before piece out : List ℕ) (n : ℕ) → n ≡ length before → out ≡ text_xor (aes_encrypt key) Low32 (increased (initial_counter_block (aes_encrypt key) nonce) 1) n piece
    → gcm_text (aes_encrypt key) nonce (before ++ piece) ≡ gcm_text (aes_encrypt key) nonce before ++ out
further key nonce before piece out n place is_out =
    let e : List ℕ → List ℕ = aes_encrypt key in
    let start : ℕ = increased (initial_counter_block e nonce) 1 in
    let same : 0 + length before ≡ n = omega arith in
    gcm_is e (aes_keeps_length key) nonce (before ++ piece) ∙ text_xor-append e Low32 start before piece 0
    ∙ ap₂ (λ (xs ys : List ℕ). xs ++ ys) (sym (gcm_is e (aes_keeps_length key) nonce before)) (ap (λ (k : ℕ). text_xor e Low32 start k piece) same ∙ sym is_out)

pub length-gcm_text : (key nonce text : List ℕ) → length (gcm_text (aes_encrypt key) nonce text) ≡ length text
length-gcm_text key nonce text =
    let e : List ℕ → List ℕ = aes_encrypt key in
    ap length (gcm_is e (aes_keeps_length key) nonce text) ∙ length-text_xor e Low32 (increased (initial_counter_block e nonce) 1) 0 text

-- the hash of associated data, a text and their lengths
whole_hash : (h l hash : ℕ) (ad text : List ℕ) → l ≡ length_block (length ad) (length text)
    → hash ≡ block_product (bit_xor (ghash_from h (ghash_from h 0 (numbers_of ad)) (numbers_of text)) l) h → hash ≡ ghash_of h ad text
whole_hash h l hash ad text is_l is_hash =
    let one : ℕ = ghash_from h 0 (numbers_of ad) in
    let two : ℕ = ghash_from h one (numbers_of text) in
    in_turn h hash l (h, 0) (h, one) (h, two) (h, block_product (bit_xor two l) h) ad text refl refl refl refl is_l is_hash

pub tag_made : (s : GcmState) (key nonce ad cipher tag : List ℕ) (t l hash mask : ℕ) → HoldsGcmText s key nonce ad cipher → l ≡ length_block (length ad) (length cipher)
    → hash ≡ block_product (bit_xor (ghash_from (hash_subkey (aes_encrypt key)) (ghash_from (hash_subkey (aes_encrypt key)) 0 (numbers_of ad)) (numbers_of cipher)) l) (hash_subkey (aes_encrypt key))
    → number_block mask ≡ aes_encrypt key (number_block s.first) → tag ≡ number_block (bit_xor mask hash) → take t tag ≡ gcm_tag (aes_encrypt key) t nonce ad cipher
unfolding number_block
tag_made s key nonce ad cipher tag t l hash mask holds is_l is_hash is_mask is_tag =
    let e : List ℕ → List ℕ = aes_encrypt key in
    let h : ℕ = hash_subkey e in
    tag_is e nonce ad cipher tag h s.first t refl (λ _. holds.first)
    (is_tag ∙ block_of_xor mask hash ∙ ap₂ xor_bytes is_mask (ap number_block (whole_hash h l hash ad cipher is_l is_hash)))
