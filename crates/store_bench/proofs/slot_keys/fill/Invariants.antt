use Rattle.std.proofs.Common.{◌+◌, ◌≤◌}
use Rattle.store_bench.specs.Readers.{AllUnread}
use Rattle.store_bench.proofs.slot_keys.fill.Given as goal

abbrev pub invariant-loop-id : goal.invariant-loop-id
invariant-loop-id l = (l.taken + 1 ≤ l.id) × AllUnread l.table.slots
