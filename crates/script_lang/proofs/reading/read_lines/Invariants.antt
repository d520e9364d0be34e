use Rattle.std.proofs.Common.{All, length, ◌+◌, ◌≡◌, ◌≤◌}
use Rattle.script_lang.proofs.Common.{AreCounted, IsOfSession, lines_at, nothing_read, read_of, text_lines}
use Rattle.script_lang.proofs.reading.read_lines.Given as goal

abbrev pub invariant-loop-line : goal.invariant-loop-line
invariant-loop-line l = record {
  read : lines_at l.number (read_of l.reading.lines.items l.reading.sessions.items l.reading.owners) l.lines ≡ lines_at 1 nothing_read (text_lines l.fn.text);
  counted : AreCounted l.reading.lines.items l.reading.sessions.items;
  few : length l.reading.lines.items + 1 ≤ l.number;
  sessions : All IsOfSession l.reading.lines.items;
  bound : l.number + length l.lines ≡ length (text_lines l.fn.text) + 1;
  within : l.number ≤ 20001;
}

abbrev pub decreases-loop-line : goal.decreases-loop-line
decreases-loop-line l = length l.lines
