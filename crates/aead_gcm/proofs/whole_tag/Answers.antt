use Rattle.aead_gcm.proofs.Common.{ap, ap₂, number_block, xor_bytes, ◌∙◌}
use Rattle.aead_gcm.proofs.whole_tag.Goals as goal

pub returns : goal.returns
returns c = c.masked.ensures.value ∙ ap₂ xor_bytes c.encrypt_number-mask.ensures (ap number_block c.ghash_of.ensures)
