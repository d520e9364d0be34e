use Rattle.std.proofs.Common.{flat_map, take, ◌≤◌}
use Rattle.psa_command.proofs.Common.{Appends}
use Rattle.outside_io.specs.Causes.{TellsAsBefore}
use Rattle.psa_command.proofs.writing.write_replies.Given as goal

abbrev pub invariant-loop-own : goal.invariant-loop-own
invariant-loop-own g l = record {
  written : Appends (g.K.Sink.taken l.fn.sink) (g.K.Sink.taken l.sink) (flat_map (λ k. k.text.items) (take l.own-index l.replies));
  later : g.K.Sink.faults l.fn.sink ≤ g.K.Sink.faults l.sink;
  tells : TellsAsBefore (g.K.Sink.taken l.fn.sink) (g.K.Sink.taken l.sink);
}
