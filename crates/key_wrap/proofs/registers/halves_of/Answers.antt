use Rattle.key_wrap.proofs.Halves.{block_halves}
use Rattle.key_wrap.proofs.registers.halves_of.Goals as goal

pub returns : goal.returns
returns c = block_halves c.args.block
