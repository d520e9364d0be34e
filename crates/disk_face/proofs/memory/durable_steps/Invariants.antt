use Rattle.std.proofs.Common.{drop, ◌≡◌, ◌≤◌}
use Rattle.disk_face.specs.Memory.{durable_from, durable_steps}
use Rattle.disk_face.proofs.memory.durable_steps.Given as goal

abbrev pub invariant-loop-at : goal.invariant-loop-at
invariant-loop-at l = record {
  rest : durable_from l.durable l.at (drop l.at l.steps) ≡ durable_steps l.steps;
  bound : l.durable ≤ l.at;
}
