-- A caller's pass between two turns, and what a turn adds to what it knows.
use Rattle.std.specs.{List.AllByRecursion, Prelude.◌≡◌, Prelude.◌⊎◌, Prelude.◌<◌, Prelude.◌≤◌, Prelude.◌^◌, Prelude.ℕ, Prelude.◌+◌, Prelude.◌==◌, Prelude.◌&&◌, Prelude.false, Prelude.cond, Prelude.Result, Prelude.nat_lt, Prelude.count_by, Prelude.List, Prelude.[], Prelude.◌∷◌, Prelude.◌++◌, Prelude.length, Prelude.Option, Prelude.Some, Prelude.None, Prelude.is_some, Prelude.Ok, Prelude.Err}
use Rattle.atomic_table.specs.declared.shared.Seat.{Seat}
use Rattle.turn_history.specs.{declared.pass.View.View, Prelude.entries_of, Prelude.calls_by, Prelude.StartsWith, Prelude.held_by, Prelude.IsInTurn, Prelude.IsOutside, Prelude.OwnCalls}
use Rattle.disk_face.specs.declared.Disk as disk
use Rattle.driver_dispatch.specs.declared.devices.Devices as devices
use Rattle.slot_table.specs.Lent as lent
use Rattle.key_attributes.specs.declared.Attributes.{Attributes}
use Rattle.psa_status.specs.{declared.Status.Status, declared.Status.TheVariants.Success}
use Rattle.key_slots.specs.Holdings.{Pairs, IsHolding, names}
use Rattle.secure_element_calls.specs.Answers.{mark_computed}
use Rattle.store_model.specs.Store as model
use Rattle.store_model.specs.Prelude.{FaultMark, Plain, Service, created_unless, may_change_keys, IsCaller, Request, plain_step, Entry, replay, AreAllowed, IsCaused, id_read}
use Rattle.store_core.specs.{declared.store.Opened.Opened, declared.store.Store.Store, Prelude.HasModel, Prelude.IsTold, Prelude.AreRising, Prelude.IsStart, Prelude.opening_of, Prelude.is_destruction, Prelude.mark_of, Prelude.mark_undestroyed, Prelude.mark_uncopied, Prelude.mark_unmade}
use Rattle.locked_store.specs.{declared.changes.Change.Change, declared.changes.Change.TheVariants.Nothing, declared.changes.Change.TheVariants.Lends, declared.changes.Change.TheVariants.TakesLease, declared.changes.Change.TheVariants.Reserves, declared.changes.Change.TheVariants.TakesFilling, declared.changes.Met.Met, Standing.caller_of, Worlds.World}
use Rattle.locked_store.specs.declared.changes.Met.TheVariants as met

-- WHAT A CALLER HAS OUT

-- a lease by its slot and its creation number plus 1
abbrev pub lease_pair : lent.Reading → ℕ × ℕ
lease_pair lease = (lease.slot, lease.creation + 1)

-- a filling by its slot and 0
abbrev pub filling_pair : lent.Reserved → ℕ × ℕ
filling_pair filling = (filling.slot, 0)

-- some pairs without the first that is this one
abbrev pub without_pair : ℕ × ℕ → Pairs → Pairs
without_pair p [] = []
without_pair p (q ∷ qs) = cond (p.0 == q.0 && p.1 == q.1) qs (q ∷ without_pair p qs)

abbrev pub after_change : Change → Pairs → Pairs
after_change Nothing own = own
after_change (Lends lease) own = lease_pair lease.value ∷ own
after_change (TakesLease lease) own = without_pair (lease_pair lease.value) own
after_change (Reserves filling) own = filling_pair filling.value ∷ own
after_change (TakesFilling filling) own = without_pair (filling_pair filling.value) own

-- there is room for one more lease, or for a filling
abbrev pub HasRoomForLease : Pairs → Type 0
HasRoomForLease own = count_by (λ p. nat_lt 0 p.1) own < 5

abbrev pub HasNoFilling : Pairs → Type 0
HasNoFilling own = count_by (λ p. p.1 == 0) own ≡ 0

-- MARKS

-- that of a result, by the mark of each refusal
abbrev pub result_mark : {T E : Type 0} → (E → FaultMark) → Result T E → FaultMark
result_mark mark (Ok _) = Plain
result_mark mark (Err why) = mark why

abbrev pub mark_met : Met → FaultMark
mark_met met.Nothing = Plain
mark_met (met.Unread status) = mark_of status
mark_met (met.Read read) = result_mark mark_of read.value
mark_met (met.Made made) = result_mark mark_unmade made.value
mark_met (met.Copied copied) = result_mark mark_uncopied copied.value
mark_met (met.Destroyed destroyed) = result_mark mark_undestroyed destroyed.value
mark_met (met.Computed computed) = mark_computed computed.value

-- what a turn that leaves the store so adds to the history
abbrev pub turn_entry : {D A C : Type 0} → disk.Ghosts D → devices.Ghosts A → Store D A C → (caller : ℕ) → Request → FaultMark → Entry
turn_entry d a store caller call mark = record {
  caller = caller;
  call = call;
  mark = mark;
  done = d.moment store.file.cells.disk;
  faults = d.faults store.file.cells.disk;
  device_faults = a.faults store.devices;
}

-- PASSES

-- a history of calls by sixteen callers that begins as a pass has seen it, in which no further call is the pass's
pub record GoesOn {B : Type 0} (v : View Entry B) (h : List Entry) : Type 0 where
  pub since : StartsWith h (entries_of v.seen)
  pub calls : calls_by caller_of v.number h ≡ v.calls
  pub signed : AllByRecursion IsCaller h

-- one turn was spent
pub record SpendsOneTurn {B : Type 0} (v w : View Entry B) : Type 0 where
  pub number : w.number ≡ v.number
  pub weight : w.weight ≡ v.weight
  pub turns_left : w.turns_left + 1 ≡ v.turns_left
  pub prefix : StartsWith w.seen v.seen

-- and it added no entry of the pass's, which then has these pairs out
pub record IsLater {B : Type 0} (v w : View Entry B) (own : Pairs) : Type 0 where
  pub on : SpendsOneTurn v w
  pub calls : w.calls ≡ v.calls
  pub holding : w.holding ≡ own

-- it added an entry of this call with this mark, after the history `before`, at the place r
pub record IsEntered {B : Type 0} (v w : View Entry B) (call : Request) (mark : FaultMark) (r : ℕ) (own : Pairs) (before : List Entry) (e : Entry) : Type 0 where
  pub on : SpendsOneTurn v w
  pub goes_on : GoesOn v before
  pub seen : entries_of w.seen ≡ before ++ e ∷ []
  pub rank : r ≡ length before
  pub by : e.caller ≡ v.number
  pub call_is : e.call ≡ call
  pub mark_is : e.mark ≡ mark
  pub calls : w.calls ≡ v.calls ++ e ∷ []
  pub holding : w.holding ≡ own

module _ {V D A C : Type 0} (w : World D A C) where
  -- a pass of this lock outside any turn
  pub record IsAt (p : Seat (Option V) (View Entry (Opened D A C))) : Type 0 where
    pub table : p.table_id ≡ w.lock
    pub outside : IsOutside p.me
    pub based : p.me.0.base ≡ Some w.opened
    pub first : 1 ≤ p.me.0.number
    pub calls : OwnCalls caller_of p.me.0
    pub holding : IsHolding p.me.0.holding

  -- a pass in its turn, v as it was before
  pub record IsBegun (v : View Entry (Opened D A C)) (p : Seat (Option V) (View Entry (Opened D A C))) (entries : ℕ) : Type 0 where
    pub table : p.table_id ≡ w.lock
    pub in_turn : IsInTurn p.me
    pub on : SpendsOneTurn v p.me.0
    pub based : p.me.0.base ≡ Some w.opened
    pub first : 1 ≤ p.me.0.number
    pub same_calls : p.me.0.calls ≡ v.calls
    pub same_holding : p.me.0.holding ≡ v.holding
    pub calls : OwnCalls caller_of p.me.0
    pub own : held_by p.me.0.holdings p.me.0.number ≡ p.me.0.holding
    pub inside : p.me.0.number ≤ length p.me.0.holdings
    pub few : length p.me.0.seen < 2 ^ 62
    pub entries_are : entries ≡ length (entries_of p.me.0.seen)

module _ {D A C : Type 0} (w : World D A C) where
  abbrev pub IsStartOf : Service → Type 0
  IsStartOf = IsStart w.disk w.devices w.rules w.opened

  -- what a history makes of the keys is told
  abbrev pub ToldBy : Service → List Entry → Type 0
  ToldBy start h = IsTold (w.disk.contents w.opened.file.value.cells.disk) start h

  -- A history is of calls by sixteen callers. Each of its marks stands where it may, and has its fault since the entry before
  -- it, or since the opening. Neither the counts of faults nor, over a disk that tells its bytes, the moments fall from entry
  -- to entry.
  pub record IsLegal (h : List Entry) : Type 0 where
    pub signed : AllByRecursion IsCaller h
    pub caused : IsCaused (is_some (w.disk.contents w.opened.file.value.cells.disk)) (opening_of w.disk w.devices w.rules w.opened).counts h
    pub rising : AreRising (is_some (w.disk.contents w.opened.file.value.cells.disk)) (opening_of w.disk w.devices w.rules w.opened) h
    pub allowed : (start : Service) → IsStartOf start → ToldBy start h → AreAllowed start h

  -- the request reads the key of an identifier, in whatever history it is entered after what the pass has seen
  abbrev pub ReadsKey : View Entry (Opened D A C) → Request → ℕ → Type 0
  ReadsKey v call id = (start : Service) → IsStartOf start → (h : List Entry) → GoesOn v h → ToldBy start h → id_read (replay start h) v.number call ≡ Some id

  -- the request leaves all keys, in whatever history it is entered after what the pass has seen: it may change none, or is refused
  abbrev pub LeavesAllKeys : View Entry (Opened D A C) → Request → Type 0
  LeavesAllKeys v call = (may_change_keys call ≡ false)
      ⊎ ((start : Service) → IsStartOf start → (h : List Entry) → GoesOn v h → ToldBy start h → (plain_step (replay start h) v.number call).reply.status ≡ Success → ⊥)

  -- P holds of a sound store before an entry, or after it, from each start: of the one-thread store, as far as the history with the
  -- entry is told
  abbrev pub DecidesBefore : (model.Store → Type 0) → List Entry → Entry → Type 0
  DecidesBefore P before e = (start : Service) → IsStartOf start → HasModel (ToldBy start (before ++ e ∷ [])) start before P

  abbrev pub DecidesAfter : (model.Store → Type 0) → List Entry → Entry → Type 0
  DecidesAfter P before e = (start : Service) → IsStartOf start → HasModel (ToldBy start (before ++ e ∷ [])) start (before ++ e ∷ []) P

-- a ranked turn after a history: its entry, and what was decided there
pub record IsEnteredAfter {B : Type 0} (v w : View Entry B) (call : Request) (mark : FaultMark) (r : ℕ) (own : Pairs) (before : List Entry) (Decided : List Entry → Entry → Type 0) : Type 0 where
  pub entry : Entry
  pub entered : IsEntered v w call mark r own before entry
  pub decided : Decided before entry

-- a ranked turn
pub record IsRanked {B : Type 0} (v w : View Entry B) (call : Request) (mark : FaultMark) (r : ℕ) (own : Pairs) (Decided : List Entry → Entry → Type 0) : Type 0 where
  pub before : List Entry
  pub after : IsEnteredAfter v w call mark r own before Decided

-- a lease, where there is one, is among these pairs
abbrev pub IsOwn : Option lent.Reading → Pairs → Type 0
IsOwn None own = Unit {0}
IsOwn (Some lease) own = 0 < names lease.slot (lease.creation + 1) own

-- The request is to create a key of these bytes for a caller, the pass's, in whatever history it is entered. It destroys none, and
-- leaves and answers what a creation does that records so.
pub record CreatesKey {D A C : Type 0} (w : World D A C)
    (v : View Entry (Opened D A C)) (caller : ℕ) (call : Request) (records : model.Store → Result Attributes Status → Type 0) (bytes : List ℕ) : Type 0 where
  pub keeps : is_destruction call ≡ false
  pub leaves : (start : Service) → IsStartOf w start → (h : List Entry) → GoesOn v h → ToldBy w start h →
      (recorded : Result Attributes Status) → records (replay start h).store recorded →
      (plain_step (replay start h) caller call).service.store ≡ (created_unless (replay start h).store caller recorded bytes).store
  pub answers : (start : Service) → IsStartOf w start → (h : List Entry) → GoesOn v h → ToldBy w start h →
      (recorded : Result Attributes Status) → records (replay start h).store recorded →
      (plain_step (replay start h) caller call).reply ≡ (created_unless (replay start h).store caller recorded bytes).reply
