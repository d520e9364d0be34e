use Rattle.aead_streams.proofs.{Common.aes_encrypt, Common.number_block, Common.refl, Common.◌∙◌, StreamPlaces.refilled}
use Rattle.aead_streams.proofs.key_stream.KeyStream.refill.Goals as goal

pub returns-clause-at : goal.returns-clause-at
unfolding number_block
returns-clause-at c = λ width start n u h.
    refilled c.args.self.now _ (aes_encrypt c.args.key.now) width start n u h c.next_block.ensures.width refl c.next_block.ensures.counter (c.to_be_bytes-self.ensures ∙ c.next_block.ensures.block)
