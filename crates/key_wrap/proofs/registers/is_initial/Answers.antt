use Rattle.key_wrap.proofs.Halves.{compared}
use Rattle.key_wrap.proofs.registers.is_initial.Goals as goal

pub returns-clause-same : goal.returns-clause-same
returns-clause-same c =
    compared c.args.register.now c.block_of.result c.to_be_bytes.result c.is_front-same.result c.to_be_bytes.ensures c.block_of.ensures c.is_front-same.ensures
