use Rattle.key_cells.proofs.Common.{AreFirstKeys, AreFreeFrom, HasOneEach, length, ReadsBelow, ◌≡◌, cell_count}
use Rattle.key_cells.proofs.inspecting.read_keys.Given as goal

abbrev pub invariant-loop-cell : goal.invariant-loop-cell
invariant-loop-cell l = record {
  count : length l.states ≡ cell_count;
  read : ReadsBelow l.cell l.states l.image;
  unread : AreFreeFrom l.cell l.states;
  one : HasOneEach l.cell l.states;
  keys : AreFirstKeys l.cell l.keys.items l.image;
}
