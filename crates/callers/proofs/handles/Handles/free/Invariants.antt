use Rattle.callers.proofs.Common.{All, None, OperationHandle, vec_len, ◌≡◌}
use Rattle.callers.proofs.handles.Handles.free.Given as goal

abbrev pub invariant-loop-cell : goal.invariant-loop-cell
invariant-loop-cell l = All (λ (c : OperationHandle). c.lease ≡ None) l.list.items

abbrev pub decreases-loop-cell : goal.decreases-loop-cell
decreases-loop-cell l = vec_len l.list
