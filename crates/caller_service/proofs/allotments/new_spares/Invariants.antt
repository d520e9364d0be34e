use Rattle.caller_service.proofs.Common.{All, length, vec_capacity, ◌≡◌, ◌≤◌}
use Rattle.secret_bytes.specs.Buffer.{IsClear}
use Rattle.caller_service.proofs.allotments.new_spares.Given as goal

abbrev pub invariant-loop : goal.invariant-loop
invariant-loop l = record { count : length l.spares.items ≡ l.counter; clear : All IsClear l.spares.items; room : 5 ≤ vec_capacity l.spares }
