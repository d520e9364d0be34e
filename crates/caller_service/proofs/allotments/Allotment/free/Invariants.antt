use Rattle.caller_service.proofs.Common.{AreIdle, vec_len}
use Rattle.caller_service.proofs.allotments.Allotment.free.Given as goal

abbrev pub invariant-loop-handle : goal.invariant-loop-handle
invariant-loop-handle l = AreIdle l.handles.items

abbrev pub decreases-loop-handle : goal.decreases-loop-handle
decreases-loop-handle l = vec_len l.handles
