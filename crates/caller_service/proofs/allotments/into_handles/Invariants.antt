use Rattle.caller_service.proofs.Common.{All, AreIdle, AreInactive, length, vec_capacity, vec_len, ◌+◌, ◌≡◌, ◌≤◌}
use Rattle.caller_service.proofs.allotments.into_handles.Given as goal

abbrev pub invariant-loop-state : goal.invariant-loop-state
invariant-loop-state l = record {
  count : length l.handles.items + length l.states.items ≡ 4;
  inactive : All AreInactive l.states.items;
  idle : AreIdle l.handles.items;
  room : 4 ≤ vec_capacity l.handles;
}

abbrev pub decreases-loop-state : goal.decreases-loop-state
decreases-loop-state l = vec_len l.states
