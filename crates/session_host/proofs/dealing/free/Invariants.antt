use Rattle.session_host.proofs.Common.{All, [], vec_len, ◌≡◌}
use Rattle.session_host.proofs.dealing.free.Given as goal

abbrev pub invariant-loop-worker : goal.invariant-loop-worker
invariant-loop-worker g l = All (λ t. t.sessions.items ≡ []) l.workers.items

abbrev pub decreases-loop-worker : goal.decreases-loop-worker
decreases-loop-worker g l = vec_len l.workers
