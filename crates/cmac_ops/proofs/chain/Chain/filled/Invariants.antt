use Rattle.cmac_ops.proofs.Common.{replicate, take, ◌++◌, ◌-◌, ◌≡◌}
use Rattle.cmac_ops.proofs.chain.Chain.filled.Given as goal

abbrev pub invariant-bytes : goal.invariant-bytes
invariant-bytes l = l.out ≡ take l.i l.self.block ++ replicate (16 - l.i) 0
