use Rattle.cipher_blocks.proofs.Common.{ap, length, number_block, take, ◌∙◌}
use Rattle.cipher_blocks.proofs.set_front.Goals as goal

pub returns : goal.returns
unfolding number_block
returns c = c.copy_from_slice.ensures.after ∙ ap (take (length c.args.piece.now)) c.to_be_bytes.ensures
