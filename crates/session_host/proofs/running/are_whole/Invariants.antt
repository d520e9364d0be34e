use Rattle.session_host.proofs.Common.{get_or, true, ℕ, ◌<◌, ◌≡◌}
use Rattle.session_host.proofs.running.are_whole.Given as goal

abbrev pub invariant-loop-worker : goal.invariant-loop-worker
invariant-loop-worker g l = (k : ℕ) (d : _) → k < l.worker-index → (get_or l.fn.workers k d).whole ≡ true
