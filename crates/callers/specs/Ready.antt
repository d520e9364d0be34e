-- What a caller is between its calls.
use Rattle.std.specs.Prelude.{◌≡◌, ◌≤◌, ℕ, ◌+◌, ◌*◌, ◌^◌, get_or, List, All, length, vec_capacity}
use Rattle.secret_bytes.specs.Buffer.{IsClear}
use Rattle.turn_history.specs.Prelude.{entries_of, TURNS}
use Rattle.store_model.specs.Prelude.{Inactive, HandleOperation, Own, Service, own_of, IsSoundStore, replay}
use Rattle.locked_store.specs.Prelude.{IsAt, World, IsStartOf, ToldBy}
use Rattle.callers.specs.{Called.Legal, Handles.AreOperations, Handles.ArePairs, Handles.busy, Handles.leases_of, Handles.operation_at, declared.caller.Caller.Caller}

-- the model's own part of a caller has these operations at its handles, from 1 on, and has drawn so many random words
pub record IsOwnPart (operations : List HandleOperation) (place : ℕ) (own : Own) : Type 0 where
  pub drawn : own.drawn ≡ place
  pub handles : length own.operations ≡ 5
  pub each : (handle : ℕ) → 1 ≤ handle → handle ≤ 4 → get_or own.operations handle Inactive ≡ operation_at operations handle

module _ {D A C : Type 0} (w : World D A C) where
  -- The caller is outside any turn. Its handles stand for its operations, and all that it has out of the store are their
  -- leases: it has a spare for each other one of five. From each start and as far as what it has seen is told, operations and
  -- stream are those of the one-thread service. `slack` turns are left beside those that its count of calls and the ends of its
  -- operations still need, and 64 random words for each.
  pub record IsReady (slack : ℕ) (c : Caller D A C) : Type 0 where
    pub at : IsAt w c.pass
    pub number : c.pass.me.0.number ≡ c.number
    pub last : c.number ≤ 16
    pub one : c.pass.me.0.weight ≡ 1
    pub legal : Legal w (entries_of c.pass.me.0.seen)
    pub sound : (start : Service) → IsStartOf w start → IsSoundStore start.store
    pub operations : List HandleOperation
    pub stand : AreOperations c.handles.list.items operations
    pub own : (start : Service) → IsStartOf w start → ToldBy w start (entries_of c.pass.me.0.seen) →
        IsOwnPart operations c.stream.place (own_of (replay start (entries_of c.pass.me.0.seen)) c.number)
    pub leases : ArePairs c.pass.me.0.holding (leases_of c.handles.list.items)
    pub clear : All IsClear c.spares.items
    pub five : length (leases_of c.handles.list.items) + length c.spares.items ≡ 5
    pub room : 5 ≤ vec_capacity c.spares
    pub seed : c.stream.seed ≡ w.opened.seed.value
    pub stream_of : c.stream.caller ≡ c.number
    pub turns : TURNS + 2 * busy operations + slack ≤ c.pass.me.0.turns_left + 4 * c.spent
    pub words : c.stream.place + 64 * slack ≤ 256 * c.spent
    pub spent : c.spent ≤ 2 ^ 48
