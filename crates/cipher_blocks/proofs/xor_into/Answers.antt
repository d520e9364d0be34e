use Rattle.cipher_blocks.proofs.{Common.ap, Common.arith, Common.number_block, Common.xor_bytes, Common.◌∙◌, HalfBlocks.halves_xored}
use Rattle.cipher_blocks.proofs.xor_into.Goals as goal

pub returns-then-piece-eq16 : goal.returns-then-piece-eq16
returns-then-piece-eq16 c =
    halves_xored c.args.piece.now c.args.block c.xor_half.new.half c.xor_half-then-piece-eq16.new.half _ c.if-piece-eq16.true (omega (arith, c.if-piece-eq16.true)) c.xor_half.ensures c.xor_half-then-piece-eq16.ensures

pub returns-else-piece-eq16 : goal.returns-else-piece-eq16
unfolding number_block
returns-else-piece-eq16 c = c.xor_by_byte.ensures ∙ ap (xor_bytes c.args.piece.now) c.to_be_bytes.ensures
