use Rattle.std.proofs.Common.{◌+◌, ◌≤◌}
use Rattle.store_bench.proofs.full.export_all.Given as goal

abbrev pub invariant-loop-id : goal.invariant-loop-id
invariant-loop-id g l = l.exported + 1 ≤ l.id
