use Rattle.aead_streams.proofs.{Common.aes_encrypt, Common.ap₂, Common.block_of_xor, Common.length-aes_encrypt, Common.xor_bytes, Common.◌∙◌, StreamPlaces.block_is, StreamPlaces.block_on}
use Rattle.aead_streams.proofs.key_stream.KeyStream.xor_block.Goals as goal

pub returns-clause-text : goal.returns-clause-text
returns-clause-text c = λ width start n h.
    c.set_number.ensures ∙ block_of_xor c.number_of.result c.next_block-mask.result ∙ ap₂ xor_bytes c.number_of.ensures.block c.next_block-mask.ensures.block
    ∙ block_is c.args.self.now (aes_encrypt c.args.key.now) width start n c.args.block.now (length-aes_encrypt c.args.key.now) c.requires.used c.requires.whole h

pub returns-clause-at : goal.returns-clause-at
returns-clause-at c = λ width start n h.
    block_on c.args.self.now _ (aes_encrypt c.args.key.now) width start n c.requires.used h c.next_block-mask.ensures.width (c.next_block-mask.ensures.used ∙ c.requires.used) c.next_block-mask.ensures.counter
