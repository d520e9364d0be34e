-- The tag of a payload.
use Rattle.aead_ccm.proofs.Common.{List, ap, ap₂, bit_xor, block_of_xor, ccm_counter_block, ccm_tag, chained, chained_from, control_block, encoded_data, filled_blocks, formatted_blocks, length, number_block, take, xor_bytes, ℕ, ◌∙◌, ◌∷◌, ◌≡◌}
use Rattle.aead_ccm.proofs.Chains.{payload_chained}

pub tag_is : (e : List ℕ → List ℕ) (nonce ad payload : List ℕ) (t chain mac first mask : ℕ)
    → number_block chain ≡ chained e (control_block t nonce (length ad) (length payload) ∷ filled_blocks (encoded_data ad))
    → number_block mac ≡ chained_from e (number_block chain) (filled_blocks payload)
    → number_block first ≡ ccm_counter_block nonce 0 → number_block mask ≡ e (number_block first)
    → take t (number_block (bit_xor mac mask)) ≡ ccm_tag e t nonce ad payload
unfolding ccm_tag formatted_blocks
tag_is e nonce ad payload t chain mac first mask ec em ef ek =
    ap (take t)
    (block_of_xor mac mask
    ∙ ap₂ xor_bytes (payload_chained e (control_block t nonce (length ad) (length payload) ∷ filled_blocks (encoded_data ad)) (filled_blocks payload) chain mac ec em) (ek ∙ ap e ef))
