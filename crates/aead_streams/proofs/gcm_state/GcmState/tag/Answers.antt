use Rattle.aead_streams.proofs.{Common.ap₂, Common.length_block, Common.number_block, Common.◌∙◌, GcmTexts.tag_made}
use Rattle.aead_streams.proofs.gcm_state.GcmState.tag.Goals as goal

pub returns : goal.returns
unfolding number_block
returns c = λ nonce ad cipher t holds is_ad is_text.
    tag_made c.args.self.now c.args.key.now nonce ad cipher _ t c.length_block.result c.finish-hash.result c.encrypt_number.result holds
    (c.length_block.ensures ∙ ap₂ length_block is_ad is_text) (c.finish-hash.ensures _ _ cipher holds.hash) c.encrypt_number.ensures c.to_be_bytes.ensures
