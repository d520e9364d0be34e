use Rattle.cipher_blocks.proofs.{Common.ap, Common.arith, Common.block_number, Common.number_block, Common.◌∙◌, BlockNumbers.block_of_number}
use Rattle.cipher_blocks.proofs.number_of.Goals as goal

pub returns : goal.returns
unfolding block_number
returns c =
    let number = c.from_be_bytes.ensures ∙ ap block_number c.copy_from_slice.ensures.after in
    record { number = number; block = ap number_block number ∙ block_of_number c.args.block.now c.requires (λ i. omega (arith, c.type_inv.block i)) }
