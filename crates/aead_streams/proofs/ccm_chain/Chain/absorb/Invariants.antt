use Rattle.aead_streams.proofs.Common.{List, aes_encrypt, chain_after, drop, length, ℕ, ◌++◌, ◌-◌, ◌≡◌, ◌≤◌}
use Rattle.aead_streams.proofs.ccm_chain.Chain.absorb.Given as goal

abbrev pub invariant-runs : goal.invariant-runs
invariant-runs l = record {
  within : l.done ≤ length l.piece;
  chain : (rest : List ℕ) → chain_after (aes_encrypt l.key) l.self (drop l.done l.piece ++ rest) ≡ chain_after (aes_encrypt l.key) l.initial.self (l.piece ++ rest);
}

abbrev pub decreases-runs : goal.decreases-runs
decreases-runs l = length l.piece - l.done
