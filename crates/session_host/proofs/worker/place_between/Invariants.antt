use Rattle.session_host.proofs.Common.{Session, get_or, ℕ, ◌<◌, ◌≢◌, ◌≤◌}
use Rattle.session_host.proofs.worker.place_between.Given as goal

abbrev pub invariant-loop-place : goal.invariant-loop-place
invariant-loop-place g l = (k : ℕ) (d : Session _ _ _) → l.place ≤ k → k < l.end → (get_or l.sessions k d).caller.number ≢ l.number
