use Rattle.std.proofs.Common.{length, ◌+◌, ◌≡◌}
use Rattle.script_lang.proofs.Common.{text_lines}
use Rattle.script_lang.proofs.reading.has_many_lines.Given as goal

abbrev pub invariant-loop-line : goal.invariant-loop-line
invariant-loop-line l = l.left + length (text_lines l.fn.text) ≡ 20000 + length l.lines

abbrev pub decreases-loop-line : goal.decreases-loop-line
decreases-loop-line l = length l.lines
