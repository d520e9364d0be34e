use Rattle.kdf_core.proofs.Common.{add-one, arith, xor_bytes_next}
use Rattle.kdf_core.proofs.pbkdf2.xor_into.Goals as goal

pub bytes-preserved : goal.bytes-preserved
bytes-preserved c = rw (add-one, c.bytes.invariant) (xor_bytes_next c.args.sum.now c.args.turn.now c.bytes.i (omega arith) (omega arith))
