use Rattle.cipher_blocks.proofs.{Common.ap, Common.arith, Common.block_number, Common.number_block, Common.◌∙◌, FilledBlocks.written_number, FilledBlocks.written_block}
use Rattle.cipher_blocks.proofs.filled_number.Goals as goal

pub returns : goal.returns
unfolding block_number
returns c = record {
  number = c.from_be_bytes.ensures ∙ written_number c.args.piece.now c.put_at.new.block c.put_at.ensures;
  block = ap number_block c.from_be_bytes.ensures
      ∙ written_block c.args.piece.now c.put_at.new.block c.requires (λ i. omega (arith, c.type_inv.piece i)) c.put_at.ensures;
}
