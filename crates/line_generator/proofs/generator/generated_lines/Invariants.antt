use Rattle.line_generator.proofs.Common.{IsOfSession, generator_lines, All, ◌≡◌}
use Rattle.line_generator.proofs.generator.generated_lines.Given as goal

abbrev pub invariant-loop-number : goal.invariant-loop-number
invariant-loop-number l = record { lines : l.lines.items ≡ generator_lines l.number; sessions : All IsOfSession l.lines.items }
