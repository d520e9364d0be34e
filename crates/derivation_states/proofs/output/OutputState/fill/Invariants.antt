use Rattle.std.proofs.Common.{length, take, ◌+◌, ◌-◌, ◌≡◌, ◌≤◌}
use Rattle.derivation_states.proofs.Common.{DerivationWork, HasSecret, next_derived, without}
use Rattle.derivation_states.proofs.output.OutputState.fill.Given as goal

abbrev pub invariant-pieces : goal.invariant-pieces
invariant-pieces l = record {
  within : l.filled ≤ length l.fn.out;
  capacity : l.self.capacity + l.filled ≡ l.fn.self.capacity;
  long : length l.out ≡ length l.fn.out;
  holds : (w : DerivationWork) → HasSecret l.inputs l.fn.self w → HasSecret l.inputs l.self (without w l.filled);
  bytes : (w : DerivationWork) → HasSecret l.inputs l.fn.self w → take l.filled l.out ≡ next_derived w l.filled;
}

abbrev pub decreases-pieces : goal.decreases-pieces
decreases-pieces l = length l.fn.out - l.filled
