-- A caller that ends.
use Rattle.std.specs.Prelude.{◌≡◌, ◌≤◌, ℕ, ◌+◌, length, vec_capacity, List}
use Rattle.atomic_table.specs.Seated.{TableId}
use Rattle.turn_history.specs.{declared.pass.View.View, Prelude.StartsWith, Prelude.entries_of, Prelude.IsIdle}
use Rattle.store_model.specs.Prelude.{Inactive, HandleOperation, Entry}
use Rattle.locked_store.specs.Prelude.{IsAt, World}
use Rattle.callers.specs.{Called.Legal, Handles.AreIdle, Handles.AreOperations, Handles.ArePairs, Handles.leases_of, Handles.operation_at, declared.caller.Caller.Caller}

-- From one view of a caller to a later one the caller made no call.
pub record MakesNoCall {B : Type 0} (v u : View Entry B) : Type 0 where
  pub number : u.number ≡ v.number
  pub weight : u.weight ≡ v.weight
  pub calls : u.calls ≡ v.calls
  pub seen : StartsWith u.seen v.seen

module _ {D A C : Type 0} where
  -- The caller has nothing out of the store any more, and nothing is left of its operations.
  pub record IsRetired (lock : TableId) (c : Caller D A C) : Type 0 where
    pub idle : IsIdle lock c.pass
    pub cells : AreIdle c.handles.list.items

  -- The operations of so many handles, from 1 on, are wiped. All that the caller has out of the store are the leases of the
  -- others, it has a turn for each of them, and room for the spare.
  pub record IsRetiring (w : World D A C) (count : ℕ) (c : Caller D A C) : Type 0 where
    pub at : IsAt w c.pass
    pub legal : Legal w (entries_of c.pass.me.0.seen)
    pub operations : List HandleOperation
    pub stand : AreOperations c.handles.list.items operations
    pub wiped : (handle : ℕ) → 1 ≤ handle → handle ≤ count → operation_at operations handle ≡ Inactive
    pub leases : ArePairs c.pass.me.0.holding (leases_of c.handles.list.items)
    pub five : length (leases_of c.handles.list.items) + length c.spares.items ≡ 5
    pub room : 5 ≤ vec_capacity c.spares
    pub turns : 4 ≤ c.pass.me.0.turns_left + count
