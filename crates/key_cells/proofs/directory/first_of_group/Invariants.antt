use Rattle.key_cells.proofs.Common.{cell_state, is_open, true, ℕ, ◌*◌, ◌<◌, ◌≡◌, ◌≤◌}
use Rattle.key_cells.proofs.directory.first_of_group.Given as goal

abbrev pub invariant-loop-cell : goal.invariant-loop-cell
invariant-loop-cell l = (other : ℕ) → 32 * l.fn.group ≤ other → other < l.cell → is_open (cell_state l.fn.states other) ≡ true
