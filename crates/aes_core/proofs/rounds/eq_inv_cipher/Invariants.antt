use Rattle.aes_core.proofs.Common.{IsInvScheduleOf, List, word_bytes, inv_rounds, number_block, ℕ, ◌%◌, ◌-◌, ◌≡◌, ◌≤◌}
use Rattle.aes_core.proofs.rounds.eq_inv_cipher.Given as goal

abbrev pub invariant-inv_rounds : goal.invariant-inv_rounds
invariant-inv_rounds l = record {
  some : 1 ≤ l.round;
  within : l.round ≤ l.rounds;
  left_in_pairs : l.round % 2 ≡ l.rounds % 2;
  state_is : (schedule : List ℕ) → IsInvScheduleOf l.rounds schedule l.inverse
      → word_bytes l.state ≡ inv_rounds (word_bytes schedule) l.rounds (number_block l.block) (l.round - 1);
}

abbrev pub decreases-inv_rounds : goal.decreases-inv_rounds
decreases-inv_rounds l = l.rounds - l.round
