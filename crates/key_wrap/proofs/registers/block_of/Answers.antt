use Rattle.key_wrap.proofs.Common.{ap, arith, number_block, ◌∙◌}
use Rattle.key_wrap.proofs.Halves.{block_of_two}
use Rattle.key_wrap.proofs.registers.block_of.Goals as goal

pub returns : goal.returns
returns c = ap number_block (omega arith) ∙ block_of_two c.args.high c.args.low (omega arith)
