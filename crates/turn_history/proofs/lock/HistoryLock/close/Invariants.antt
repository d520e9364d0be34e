use Rattle.turn_history.proofs.Common.{accounts_of, weight_of, ◌++◌, ◌≡◌}
use Rattle.turn_history.proofs.lock.HistoryLock.close.Given as goal

abbrev pub invariant-loop-pass : goal.invariant-loop-pass
invariant-loop-pass g l = record {
  lock : l.ending.lock ≡ l.fn.self;
  accounts : l.ending.last.me.0.accounts ≡ accounts_of l.yielded;
  weighs : l.ending.last.me.0.weight ≡ weight_of l.yielded;
  items : l.fn.passes.items ≡ l.yielded ++ l.pass-iterator.rest.items;
}
