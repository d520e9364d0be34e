use Rattle.key_wrap.proofs.Common.{arith}
use Rattle.key_wrap.proofs.Whole.{no_steps}
use Rattle.key_wrap.proofs.wrapping.wrap_row.Goals as goal

pub turns-init : goal.turns-init
turns-init c = no_steps _ _ _ (omega arith)
