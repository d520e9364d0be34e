use Rattle.caller_service.proofs.Common.{All, IsAllotment, length, vec_capacity, ◌≡◌, ◌≤◌}
use Rattle.caller_service.proofs.allotments.take.Given as goal

abbrev pub invariant-loop : goal.invariant-loop
invariant-loop l = record { count : length l.allotments.items ≡ l.counter; are : All IsAllotment l.allotments.items; room : l.fn.count ≤ vec_capacity l.allotments }
