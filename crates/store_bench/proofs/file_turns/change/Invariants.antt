use Rattle.std.proofs.Common.{length, ◌≡◌}
use Rattle.store_bench.proofs.file_turns.change.Given as goal
use Rattle.key_cells.specs.Prelude.{cell_count, store_size}

abbrev pub invariant-changes : goal.invariant-changes
invariant-changes l = record {
  size : length l.cells.disk.bytes.items ≡ store_size;
  slots : length l.cells.states ≡ cell_count;
}
