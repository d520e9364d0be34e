use Rattle.hmac_ops.proofs.Common.{replicate, take, ◌++◌, ◌-◌, ◌≡◌}
use Rattle.hmac_ops.proofs.pads.filled.Given as goal

abbrev pub invariant-bytes : goal.invariant-bytes
invariant-bytes l = l.out ≡ take l.i l.bytes ++ replicate (128 - l.i) 0
