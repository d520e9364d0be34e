use Rattle.std.proofs.Common.{◌+◌, ◌-◌, ◌≡◌, ◌≤◌}
use Rattle.derivation_states.proofs.Common.{DerivationWork, HasSecret, without}
use Rattle.derivation_states.proofs.output.OutputState.skip.Given as goal

abbrev pub invariant-pieces : goal.invariant-pieces
invariant-pieces l = record {
  within : l.skipped ≤ l.fn.count;
  capacity : l.self.capacity + l.skipped ≡ l.fn.self.capacity;
  holds : (w : DerivationWork) → HasSecret l.inputs l.fn.self w → HasSecret l.inputs l.self (without w l.skipped);
}

abbrev pub decreases-pieces : goal.decreases-pieces
decreases-pieces l = l.fn.count - l.skipped
