use Rattle.aead_ccm.proofs.{Common.aes_encrypt, Common.ap, Common.ccm_tag, Common.chained, Common.control_block, Common.encoded_data, Common.false, Common.filled_blocks, Common.length, Common.sym, Common.true, Common.ℕ, Common.◌∙◌, Common.◌∷◌, KeyStream.text_is, Tags.tag_is}
use Rattle.cipher_blocks.proofs.FilledBlocks.{decided_of_equal}
use Rattle.aead_ccm.proofs.open.Goals as goal

pub returns-then-is_tag-clause-text : goal.returns-then-is_tag-clause-text
returns-then-is_tag-clause-text c =
    text_is (aes_encrypt c.args.key.now) c.args.nonce.now c.args.text.now c.open_text-mac.new.text c.counter_block-first.result c.requires.nonce c.requires.text c.counter_block-first.ensures c.open_text-mac.ensures.text

pub returns-then-is_tag-clause-tag : goal.returns-then-is_tag-clause-tag
returns-then-is_tag-clause-tag c =
    let e = aes_encrypt c.args.key.now in
    let nonce = c.args.nonce.now in
    let ad = c.args.ad.now in
    let t = length c.args.tag.now in
    let plain = c.open_text-mac.new.text in
    let chain = c.chain_front-chain.ensures ∙ ap (λ (n : ℕ). chained e (control_block t nonce (length ad) n ∷ filled_blocks (encoded_data ad))) (sym c.open_text-mac.auto.text) in
    let right = tag_is e nonce ad plain t c.chain_front-chain.result c.open_text-mac.result c.counter_block-first.result c.encrypt_number-mask.result chain c.open_text-mac.ensures.chain c.counter_block-first.ensures c.encrypt_number-mask.ensures
    ∙ ap (ccm_tag e t nonce ad) (text_is e nonce c.args.text.now plain c.counter_block-first.result c.requires.nonce c.requires.text c.counter_block-first.ensures c.open_text-mac.ensures.text) in
    decided_of_equal true c.args.tag.now _ _ c.if-is_tag.ensures.same right

pub returns-else-is_tag-clause-tag : goal.returns-else-is_tag-clause-tag
returns-else-is_tag-clause-tag c =
    let e = aes_encrypt c.args.key.now in
    let nonce = c.args.nonce.now in
    let ad = c.args.ad.now in
    let t = length c.args.tag.now in
    let plain = c.open_text-mac.new.text in
    let chain = c.chain_front-chain.ensures ∙ ap (λ (n : ℕ). chained e (control_block t nonce (length ad) n ∷ filled_blocks (encoded_data ad))) (sym c.open_text-mac.auto.text) in
    let right = tag_is e nonce ad plain t c.chain_front-chain.result c.open_text-mac.result c.counter_block-first.result c.encrypt_number-mask.result chain c.open_text-mac.ensures.chain c.counter_block-first.ensures c.encrypt_number-mask.ensures
    ∙ ap (ccm_tag e t nonce ad) (text_is e nonce c.args.text.now plain c.counter_block-first.result c.requires.nonce c.requires.text c.counter_block-first.ensures c.open_text-mac.ensures.text) in
    decided_of_equal false c.args.tag.now _ _ c.if-is_tag.ensures.same right
