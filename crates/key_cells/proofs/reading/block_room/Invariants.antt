use Rattle.key_cells.proofs.Common.{length, ◌*◌, ◌≡◌}
use Rattle.key_cells.proofs.reading.block_room.Given as goal

abbrev pub invariant-loop : goal.invariant-loop
invariant-loop l = length l.block.items ≡ 1088 * l.counter
