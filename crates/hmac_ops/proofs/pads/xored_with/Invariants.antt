use Rattle.hmac_ops.proofs.Common.{length, take, xored_with, ◌≡◌}
use Rattle.hmac_ops.proofs.pads.xored_with.Given as goal

abbrev pub invariant-bytes : goal.invariant-bytes
invariant-bytes l = (length l.out ≡ 128) × (take l.i l.out ≡ xored_with l.with (take l.i l.block))
