use Rattle.kdf_core.proofs.Common.{drop, take, xor_bytes, ◌++◌, ◌≡◌}
use Rattle.kdf_core.proofs.pbkdf2.xor_into.Given as goal

abbrev pub invariant-bytes : goal.invariant-bytes
invariant-bytes l = l.sum ≡ xor_bytes (take l.i l.fn.sum) l.turn ++ drop l.i l.fn.sum
