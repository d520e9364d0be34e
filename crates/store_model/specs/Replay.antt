-- A history of calls, and its replay on the one-thread service.
use Rattle.std.specs.Prelude.{ℕ, zero, suc, List, [], ◌∷◌, Option, Some, None}
use Rattle.store_model.specs.{Common.FaultMark, Common.Reply, Handles.Service, Handles.Served, Requests.Request, Requests.serve}

-- A call as it was made: who made it, and its mark. As its turn ended, `done` was the disk's moment, `faults`
-- the disk's count of faults, and `device_faults` the drivers'. Replay ignores these three.
pub record Entry : Type 0 where
  pub caller : ℕ
  pub call : Request
  pub mark : FaultMark
  pub done : ℕ
  pub faults : ℕ
  pub device_faults : ℕ

abbrev pub outcome_of : Service → Entry → Served
outcome_of service e = serve service e.caller e.call e.mark

-- the service after a history
abbrev pub replay : Service → List Entry → Service
replay service [] = service
replay service (e ∷ es) = replay (outcome_of service e).service es

-- the reply at a place of a history
abbrev pub reply_at : Service → List Entry → ℕ → Option Reply
reply_at service [] place = None
reply_at service (e ∷ es) zero = Some (outcome_of service e).reply
reply_at service (e ∷ es) (suc place) = reply_at (outcome_of service e).service es place
