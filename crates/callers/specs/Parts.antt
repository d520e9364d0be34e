-- What parts of a call leave of a caller.
use Rattle.std.specs.Prelude.{◌≡◌, ◌<◌, ◌&&◌, ℕ, ◌+◌, Bool, List, [], ◌∷◌, ◌++◌, Option, Some, None, if◌then◌else◌, nat_lt, vec_capacity, vec_len}
use Rattle.secret_bytes.specs.Buffer.{Buffer, IsClear}
use Rattle.key_attributes.specs.declared.Attributes.{Attributes}
use Rattle.key_slots.specs.Holdings.{names}
use Rattle.slot_table.specs.Lent.{Reading}
use Rattle.service_calls.specs.declared.store_calls.KeyedCall.{KeyedCall}
use Rattle.single_part.specs.Elements.{takes_vector}
use Rattle.locked_store.specs.Prelude.{IsLater, World, lease_pair, without_pair}
use Rattle.store_model.specs.{Creation.stated_bytes, Prelude.FaultMark, Prelude.Entry, Prelude.Request}
use Rattle.store_core.specs.declared.store.Opened.{Opened}
use Rattle.turn_history.specs.declared.pass.View.{View}
use Rattle.callers.specs.{Called.IsCalled, Called.KnowsBefore, HandleCalls.IsAsked, Handles.ArePairs, Handles.operation_at, Ready.IsReady, declared.caller.Caller.Caller}

-- the random bytes that a call has drawn which the secure element computed, or failed to
abbrev pub drawn_by : KeyedCall → (computed : Bool) → ℕ
drawn_by asked computed = if computed && takes_vector asked then 16 else 0

-- those drawn for a key that is made: for one that is too long there are none
abbrev pub drawn_for : Attributes → ℕ
drawn_for attributes = if nat_lt 1024 (stated_bytes attributes) then 0 else stated_bytes attributes

module _ {D A C : Type 0} where
  -- all but the pass
  pub record SameButPass (old new : Caller D A C) : Type 0 where
    pub number : new.number ≡ old.number
    pub spent : new.spent ≡ old.spent
    pub stream : new.stream ≡ old.stream
    pub spares : new.spares ≡ old.spares
    pub handles : new.handles ≡ old.handles

  -- a lease is out, and there is room for its spare
  abbrev pub MayGoBack : Caller D A C → Reading → Type 0
  MayGoBack c lease = (0 < names lease.slot (lease.creation + 1) c.pass.me.0.holding) × (vec_len c.spares < vec_capacity c.spares)

  -- a lease was given back in a turn without rank, and its spare is kept
  pub record IsGivenBack (lease : Reading) (old new : Caller D A C) : Type 0 where
    pub later : IsLater old.pass.me.0 new.pass.me.0 (without_pair (lease_pair lease) old.pass.me.0.holding)
    pub number : new.number ≡ old.number
    pub spent : new.spent ≡ old.spent
    pub stream : new.stream ≡ old.stream
    pub handles : new.handles ≡ old.handles
    pub spare : Buffer
    pub clear : IsClear spare
    pub spares : new.spares.items ≡ old.spares.items ++ spare ∷ []
    pub room : vec_capacity new.spares ≡ vec_capacity old.spares

  abbrev pub IsBack : Option Reading → (old new : Caller D A C) → Type 0
  IsBack None old new = new ≡ old
  IsBack (Some lease) old new = IsGivenBack lease old new

  -- whether the key of the operation of a handle is still there is known before an entry
  abbrev pub KnowsAlive : World D A C → Caller D A C → (handle : ℕ) → (alive : Bool) → List Entry → Entry → Type 0
  KnowsAlive w c handle alive before e = (slack : ℕ) (r : IsReady w slack c) → KnowsBefore w (λ service. IsAsked service c.number handle (operation_at r.operations handle) c.stream alive) before e

  -- A slot was reserved in a turn without rank, and in a ranked one after that a key was made in it, or the slot was given up.
  pub record IsCreated (v u : View Entry (Opened D A C)) (call : Request) (mark : FaultMark) (rank : ℕ) (Decided : List Entry → Entry → Type 0) : Type 0 where
    pub before : List Entry
    pub entry : Entry
    pub called : IsCalled v u 2 call mark rank before entry
    pub holding : ArePairs u.holding v.holding
    pub decided : Decided before entry
