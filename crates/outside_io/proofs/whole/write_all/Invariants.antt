use Rattle.std.proofs.Common.{drop, length, take, ℕ, ◌≡◌, ◌≤◌}
use Rattle.std.specs.Io.KnownBytes.{Appends}
use Rattle.outside_io.specs.Causes.{TellsAsBefore}
use Rattle.outside_io.proofs.whole.write_all.Given as goal

abbrev pub invariant-loop-rest : goal.invariant-loop-rest
invariant-loop-rest g l = record {
  front : (n : ℕ) × (l.rest ≡ drop n l.piece) × Appends (g.K.Sink.taken l.fn.sink) (g.K.Sink.taken l.sink) (take n l.piece);
  later : g.K.Sink.faults l.fn.sink ≤ g.K.Sink.faults l.sink;
  tells : TellsAsBefore (g.K.Sink.taken l.fn.sink) (g.K.Sink.taken l.sink);
}

abbrev pub decreases-loop-rest : goal.decreases-loop-rest
decreases-loop-rest g l = length l.rest
