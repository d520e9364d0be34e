use Rattle.std.proofs.Common.{add-one, arith}
use Rattle.secure_element_calls.proofs.Common.{xor_bytes_next}
use Rattle.secure_element_calls.proofs.counters.xor_mask.Goals as goal

pub bytes-preserved : goal.bytes-preserved
bytes-preserved c = rw (add-one, c.bytes.invariant) (xor_bytes_next c.args.text.now c.args.mask.now c.bytes.i (omega arith) (omega arith))
