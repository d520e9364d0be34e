use Rattle.cmac_ops.proofs.Common.{ChainHolds, List, length, take, ℕ, ◌++◌, ◌-◌, ◌≤◌}
use Rattle.cmac_ops.proofs.chain.Chain.update.Given as goal

abbrev pub invariant-turns : goal.invariant-turns
invariant-turns l = record {
  within : l.done ≤ length l.piece;
  holds : (m : List ℕ) → ChainHolds l.fn.self l.key m → ChainHolds l.self l.key (m ++ take l.done l.piece);
}

abbrev pub decreases-turns : goal.decreases-turns
decreases-turns l = length l.piece - l.done
