use Rattle.caller_service.proofs.Common.{All, Caller, IsAllotment, IsNewCaller, get_or, length, vec_capacity, world, ℕ, ◌++◌, ◌+◌, ◌<◌, ◌≡◌, ◌≤◌}
use Rattle.caller_service.proofs.service.seat.Given as goal

abbrev pub invariant-loop-pass : goal.invariant-loop-pass
invariant-loop-pass g l = record {
  allotments : length l.allotments.items + length l.yielded ≡ 16;
  are : All IsAllotment l.allotments.items;
  number : l.number ≡ length l.yielded;
  passes : l.fn.passes.items ≡ l.yielded ++ l.pass-iterator.rest.items;
  callers : length l.callers.items ≡ length l.yielded;
  each : (k : ℕ) (d : Caller _ _ _) → k < length l.callers.items → IsNewCaller (world l.fn.shared) (k + 1) (get_or l.callers.items k d);
  space : 16 ≤ vec_capacity l.callers;
}
