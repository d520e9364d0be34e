use Rattle.cmac_ops.proofs.{Common.refl, Chaining.started}
use Rattle.cmac_ops.proofs.chain.Chain.new.Goals as goal

pub returns : goal.returns
returns c = λ key. started _ key refl refl
