use Rattle.std.proofs.Common.{length, ◌-◌, ◌<◌, ◌≤◌}
use Rattle.std.specs.Io.KnownBytes.{Consumes}
use Rattle.outside_io.specs.Causes.{TellsAsBefore}
use Rattle.outside_io.proofs.whole.read_pieces.Given as goal

abbrev pub invariant-loop-text : goal.invariant-loop-text
invariant-loop-text g l = record {
  sofar : Consumes (g.S.Source.left l.fn.source) (g.S.Source.left l.source) l.text.items;
  bound : length l.text.items ≤ 4194305;
  later : g.S.Source.faults l.fn.source ≤ g.S.Source.faults l.source;
  tells : TellsAsBefore (g.S.Source.left l.fn.source) (g.S.Source.left l.source);
  room : 0 < length l.buffer;
}

abbrev pub decreases-loop-text : goal.decreases-loop-text
decreases-loop-text g l = 4194305 - length l.text.items
