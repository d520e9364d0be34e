use Rattle.cipher_blocks.proofs.{Common.arith, HalfBlocks.block_written}
use Rattle.cipher_blocks.proofs.set_number.Goals as goal

pub returns : goal.returns
returns c =
    block_written c.args.block.now c.args.number c.set_half.new.half c.set_half-2.new.half _ c.requires (omega arith)
    c.set_half.ensures c.set_half-2.ensures
