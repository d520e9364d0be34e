use Rattle.caller_service.proofs.{Common.world, Ended.AreRetiring}
use Rattle.caller_service.proofs.closing.retire_all.Given as goal

abbrev pub invariant-loop-caller : goal.invariant-loop-caller
invariant-loop-caller g l = AreRetiring (world l.fn.shared) l.caller-index l.fn.callers.items l.caller-items
