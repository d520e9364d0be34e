use Rattle.aes_core.proofs.Common.{word_bytes, number_block, rounds, ◌%◌, ◌-◌, ◌≡◌, ◌≤◌}
use Rattle.aes_core.proofs.rounds.cipher.Given as goal

abbrev pub invariant-rounds : goal.invariant-rounds
invariant-rounds l = record {
  some : 1 ≤ l.round;
  within : l.round ≤ l.rounds;
  left_in_pairs : l.round % 2 ≡ l.rounds % 2;
  state_is : word_bytes l.state ≡ rounds (word_bytes l.schedule) (number_block l.block) (l.round - 1);
}

abbrev pub decreases-rounds : goal.decreases-rounds
decreases-rounds l = l.rounds - l.round
