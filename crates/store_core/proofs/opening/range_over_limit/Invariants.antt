use Rattle.store_core.proofs.Common.{count_by, ℕ, ◌<◌, ◌≤◌}
use Rattle.key_cells.specs.Directory.{is_of_range}
use Rattle.store_model.specs.Prelude.{range_limit}
use Rattle.store_core.proofs.opening.range_over_limit.Given as goal

abbrev pub invariant-loop-range : goal.invariant-loop-range
invariant-loop-range g l = (range : ℕ) → range < l.range → count_by (is_of_range range) l.file.cells.states ≤ range_limit
