use Rattle.std.proofs.Common.{◌≡◌, ◌≤◌}
use Rattle.command_trials.proofs.ranges.import_keys.Given as goal

abbrev pub invariant-loop-id : goal.invariant-loop-id
invariant-loop-id g l = record {
  made : l.made ≤ l.id;
  service : l.client.service.now ≡ l.fn.client.service.now;
}
