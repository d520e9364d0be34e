use Rattle.aes_core.proofs.Common.{aes_decrypt, ap, number_block, ◌∙◌}
use Rattle.aes_core.proofs.AesKey.decrypt_block.Goals as goal

pub returns : goal.returns
unfolding number_block
returns c = c.to_be_bytes.ensures ∙ c.decrypt_number.ensures ∙ ap (aes_decrypt c.args.self.now) c.number_of.ensures.block
