use Rattle.caller_service.proofs.Common.{All, IsRetired, account_of, length, map, reverse, vec_len, ◌++◌, ◌+◌, ◌≡◌}
use Rattle.caller_service.proofs.closing.hand_in.Given as goal

abbrev pub invariant-loop-caller : goal.invariant-loop-caller
invariant-loop-caller g l = record {
  lock : l.ending.lock ≡ l.fn.ending.lock;
  retired : All (IsRetired l.fn.ending.lock.table.shared.table_id) l.callers.items;
  one : All (λ c. c.pass.me.0.weight ≡ 1) l.callers.items;
  accounts : l.ending.last.me.0.accounts ++ map (λ c. account_of c.pass.me.0) (reverse l.callers.items) ≡ l.fn.ending.last.me.0.accounts ++ map (λ c. account_of c.pass.me.0) (reverse l.fn.callers.items);
  weight : l.ending.last.me.0.weight + length l.callers.items ≡ l.fn.ending.last.me.0.weight + length l.fn.callers.items;
}

abbrev pub decreases-loop-caller : goal.decreases-loop-caller
decreases-loop-caller g l = vec_len l.callers
