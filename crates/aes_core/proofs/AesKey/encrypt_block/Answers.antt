use Rattle.aes_core.proofs.Common.{aes_encrypt, ap, number_block, ◌∙◌}
use Rattle.aes_core.proofs.AesKey.encrypt_block.Goals as goal

pub returns : goal.returns
unfolding number_block
returns c = c.to_be_bytes.ensures ∙ c.encrypt_number.ensures ∙ ap (aes_encrypt c.args.self.now) c.number_of.ensures.block
