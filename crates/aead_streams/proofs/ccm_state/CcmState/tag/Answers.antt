use Rattle.aead_streams.proofs.{Common.[], Common.aes_encrypt, Common.ap, Common.chain_after, Common.number_block, Common.◌∙◌, CcmTags.tag_of_chain}
use Rattle.aead_streams.proofs.ccm_state.CcmState.tag.Goals as goal

pub returns : goal.returns
unfolding number_block
returns c = λ t nonce ad plain h.
    let e = aes_encrypt c.args.key.now in
    tag_of_chain e t c.finish.result c.encrypt_number.result nonce ad plain (chain_after e c.args.self.now.chain []) c.to_be_bytes.result
    c.to_be_bytes.ensures c.finish.ensures (h.chain []) (c.encrypt_number.ensures ∙ ap e h.counts.first)
