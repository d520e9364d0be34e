use Rattle.std.proofs.Common.{length, ◌++◌, ◌≡◌}
use Rattle.script_lang.proofs.Common.{encode_lower}
use Rattle.script_lang.proofs.replies.push_hex.Given as goal

abbrev pub invariant-loop-rest : goal.invariant-loop-rest
invariant-loop-rest l = l.out.items ++ encode_lower l.rest ≡ l.fn.out.items ++ encode_lower l.bytes

abbrev pub decreases-loop-rest : goal.decreases-loop-rest
decreases-loop-rest l = length l.rest
