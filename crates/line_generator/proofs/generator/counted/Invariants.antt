use Rattle.line_generator.proofs.Common.{rising_bytes, ◌≡◌}
use Rattle.line_generator.proofs.generator.counted.Given as goal

abbrev pub invariant-loop-t : goal.invariant-loop-t
invariant-loop-t l = l.bytes.items ≡ rising_bytes l.first l.t
