use Rattle.callers.proofs.Common.{IsRetiring, MakesNoCall, world, ◌≡◌}
use Rattle.callers.proofs.caller.Caller.retire.Given as goal

abbrev pub invariant-loop-place : goal.invariant-loop-place
invariant-loop-place g l = record {
  retiring : IsRetiring (world l.fn.shared) l.place l.self;
  quiet : MakesNoCall l.initial.self.pass.me.0 l.self.pass.me.0;
  number : l.self.number ≡ l.initial.self.number;
}
