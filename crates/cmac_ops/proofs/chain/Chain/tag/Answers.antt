use Rattle.cmac_ops.proofs.{Common.number_block, Common.◌∙◌, Chaining.tag_of}
use Rattle.cmac_ops.proofs.chain.Chain.tag.Goals as goal

pub returns : goal.returns
unfolding number_block
returns c = λ m h.
    tag_of c.args.self.now c.args.key.now m _ c.last_block-last.result c.args.self.now.in_range c.last_block-last.ensures (c.to_be_bytes.ensures ∙ c.encrypt_number.ensures) h
