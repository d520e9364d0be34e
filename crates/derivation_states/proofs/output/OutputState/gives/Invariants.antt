use Rattle.std.proofs.Common.{bytes_eq, length, take, ◌+◌, ◌-◌, ◌≡◌, ◌≤◌}
use Rattle.derivation_states.proofs.Common.{DerivationWork, HasSecret, next_derived, without}
use Rattle.derivation_states.proofs.output.OutputState.gives.Given as goal

abbrev pub invariant-pieces : goal.invariant-pieces
invariant-pieces l = record {
  within : l.compared ≤ length l.expected;
  capacity : l.self.capacity + l.compared ≡ l.fn.self.capacity;
  holds : (w : DerivationWork) → HasSecret l.inputs l.fn.self w → HasSecret l.inputs l.self (without w l.compared);
  same : (w : DerivationWork) → HasSecret l.inputs l.fn.self w → l.same ≡ bytes_eq (take l.compared l.expected) (next_derived w l.compared);
}

abbrev pub decreases-pieces : goal.decreases-pieces
decreases-pieces l = length l.expected - l.compared
