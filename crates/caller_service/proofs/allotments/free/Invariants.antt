use Rattle.caller_service.proofs.Common.{All, IsAllotment, vec_len}
use Rattle.caller_service.proofs.allotments.free.Given as goal

abbrev pub invariant-loop-allotment : goal.invariant-loop-allotment
invariant-loop-allotment l = All IsAllotment l.allotments.items

abbrev pub decreases-loop-allotment : goal.decreases-loop-allotment
decreases-loop-allotment l = vec_len l.allotments
