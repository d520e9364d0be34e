use Rattle.aead_gcm.proofs.{Common.aes_encrypt, Common.false, Common.length, Common.number_block, Common.true, Tags.tag_is, Tags.text_is}
use Rattle.cipher_blocks.proofs.FilledBlocks.{decided_of_equal}
use Rattle.aead_gcm.proofs.open.Goals as goal

pub returns-then-is_tag-clause-text : goal.returns-then-is_tag-clause-text
returns-then-is_tag-clause-text c =
    let e = aes_encrypt c.args.key.now in
    let first = c.initial_counter_block-first.ensures e c.hash_subkey-subkey.ensures in
    text_is e c.args.nonce.now c.args.text.now c.xor_stream.new.text c.initial_counter_block-first.result first c.xor_stream.ensures

pub returns-then-is_tag-clause-tag : goal.returns-then-is_tag-clause-tag
returns-then-is_tag-clause-tag c =
    let e = aes_encrypt c.args.key.now in
    let right = tag_is e c.args.nonce.now c.args.ad.now c.args.text.now (number_block c.whole_tag-whole.result) c.hash_subkey-subkey.result c.initial_counter_block-first.result (length c.args.tag.now) c.hash_subkey-subkey.ensures (c.initial_counter_block-first.ensures e) c.whole_tag-whole.ensures in
    decided_of_equal true c.args.tag.now _ _ c.if-is_tag.ensures.same right

pub returns-else-is_tag-clause-tag : goal.returns-else-is_tag-clause-tag
returns-else-is_tag-clause-tag c =
    let e = aes_encrypt c.args.key.now in
    let right = tag_is e c.args.nonce.now c.args.ad.now c.args.text.now (number_block c.whole_tag-whole.result) c.hash_subkey-subkey.result c.initial_counter_block-first.result (length c.args.tag.now) c.hash_subkey-subkey.ensures (c.initial_counter_block-first.ensures e) c.whole_tag-whole.ensures in
    decided_of_equal false c.args.tag.now _ _ c.if-is_tag.ensures.same right
