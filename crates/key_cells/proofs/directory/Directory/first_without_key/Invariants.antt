use Rattle.key_cells.proofs.Common.{cell_state, is_open, true, ℕ, ◌*◌, ◌<◌, ◌≡◌}
use Rattle.key_cells.proofs.directory.Directory.first_without_key.Given as goal

abbrev pub invariant-loop-group : goal.invariant-loop-group
invariant-loop-group l = (other : ℕ) → other < 32 * l.group → is_open (cell_state l.self-inside.states.items other) ≡ true
