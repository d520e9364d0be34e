use Rattle.cipher_blocks.proofs.Common.{ap, arith, be_bytes_8, from_be_bytes, w64, ◌∙◌}
use Rattle.cipher_blocks.proofs.half_number.Goals as goal

pub returns : goal.returns
returns c = be_bytes_8 c.args.half.now c.from_be_bytes.result c.requires (λ i. omega (arith, c.type_inv.half i)) (c.from_be_bytes.ensures ∙ ap (from_be_bytes w64) c.copy_from_slice.ensures.after)
