use Rattle.caller_service.proofs.Common.{All, AreInactive, length, vec_capacity, ◌≡◌, ◌≤◌}
use Rattle.caller_service.proofs.allotments.new_states.Given as goal

abbrev pub invariant-loop : goal.invariant-loop
invariant-loop l = record { count : length l.states.items ≡ l.counter; inactive : All AreInactive l.states.items; room : 4 ≤ vec_capacity l.states }
