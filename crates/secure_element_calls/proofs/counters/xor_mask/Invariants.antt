use Rattle.std.proofs.Common.{drop, take, ◌++◌, ◌≡◌}
use Rattle.secure_element_calls.proofs.Common.{xor_bytes}
use Rattle.secure_element_calls.proofs.counters.xor_mask.Given as goal

abbrev pub invariant-bytes : goal.invariant-bytes
invariant-bytes l = l.text ≡ xor_bytes (take l.i l.fn.text) l.mask ++ drop l.i l.fn.text
