use Rattle.key_cells.proofs.AllZeros.{AreBitsOf}
use Rattle.key_cells.proofs.body.is_zero.Given as goal

abbrev pub invariant-loop-byte : goal.invariant-loop-byte
invariant-loop-byte l = AreBitsOf l.bits l.byte-index l.bytes
