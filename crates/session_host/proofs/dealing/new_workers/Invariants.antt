use Rattle.session_host.proofs.Common.{All, IsFree, length, vec_capacity, ◌≡◌, ◌≤◌}
use Rattle.session_host.proofs.dealing.new_workers.Given as goal

abbrev pub invariant-loop : goal.invariant-loop
invariant-loop g l = record { count : length l.workers.items ≡ l.counter; free : All IsFree l.workers.items; room : l.fn.count ≤ vec_capacity l.workers }
