use Rattle.cipher_blocks.proofs.Common.{drop, take, xor_bytes, ◌++◌, ◌≡◌}
use Rattle.cipher_blocks.proofs.xor_by_byte.Given as goal

abbrev pub invariant-bytes : goal.invariant-bytes
invariant-bytes l = l.piece ≡ xor_bytes (take l.i l.fn.piece) (drop l.from l.block) ++ drop l.i l.fn.piece
