-- Ranked turns of a shared store, by the pass before and after, and the call.
use Rattle.std.specs.Prelude.{◌≡◌, ℕ, true, ◌∷◌, Option}
use Rattle.std.specs.FinMap as map
use Rattle.atomic_table.specs.declared.shared.Seat.{Seat}
use Rattle.turn_history.specs.{declared.pass.View.View, Prelude.entries_of}
use Rattle.disk_face.specs.declared.Disk as disk
use Rattle.driver_dispatch.specs.declared.devices.Devices as devices
use Rattle.admission.specs.declared.rules.Admission as admission
use Rattle.slot_table.specs.Lent as lent
use Rattle.service_calls.specs.{declared.call.Call.Call, Meanings.model_request}
use Rattle.psa_status.specs.declared.Status.{Status}
use Rattle.store_model.specs.Store as model
use Rattle.store_model.specs.Prelude.{FaultMark, Plain, is_opaque_key, Entry}
use Rattle.store_core.specs.{declared.store.Opened.Opened, declared.store.Store.Store, Prelude.HasOpaque, Prelude.IsRefused, Prelude.mark_of}
use Rattle.locked_store.specs.{declared.held.SharedStore.SharedStore, Turning.DecidesAfter, Turning.DecidesBefore, Turning.IsEnteredAfter, Turning.IsRanked, Turning.filling_pair, Turning.lease_pair, Turning.without_pair, Shared.world}

abbrev Pass : (V D A C : Type 0) → Type 0
Pass V D A C = Seat (Option V) (View Entry (Opened D A C))

module _ {V D A C : Type 0} {d : disk.Ghosts D} {a : devices.Ghosts A} {c : admission.Ghosts C} (shared : SharedStore D A C d a c) where
  -- A ranked turn that leaves what the caller has out. P holds of the one-thread store before its entry, or after it.
  abbrev pub RanksBefore : (old new : Pass V D A C) → Call → (room : ℕ) → FaultMark → (rank : ℕ) → (model.Store → Type 0) → Type 0
  RanksBefore old new call room mark rank P = IsRanked old.me.0 new.me.0 (model_request call room) mark rank old.me.0.holding (DecidesBefore (world shared) P)

  abbrev pub RanksAfter : (old new : Pass V D A C) → Call → (room : ℕ) → FaultMark → (rank : ℕ) → (model.Store → Type 0) → Type 0
  RanksAfter old new call room mark rank P = IsRanked old.me.0 new.me.0 (model_request call room) mark rank old.me.0.holding (DecidesAfter (world shared) P)

  -- one that was refused as it looked for a key
  abbrev pub RanksRefused : (old new : Pass V D A C) → Call → (room rank : ℕ) → (rows : Option model.Key → Option Status) → (id : ℕ) → Status → Type 0
  RanksRefused old new call room rank rows id status = RanksAfter old new call room (mark_of status) rank (IsRefused rows id status)

  -- one that lends a key
  abbrev pub RanksLent : (old new : Pass V D A C) → Call → (room rank : ℕ) → lent.Reading → (model.Store → Type 0) → Type 0
  RanksLent old new call room rank lease P =
      IsRanked old.me.0 new.me.0 (model_request call room) Plain rank (lease_pair lease ∷ old.me.0.holding) (DecidesAfter (world shared) P)

  -- one that puts a key into the slot of a filling, or gives the slot up
  abbrev pub RanksFilling : (old new : Pass V D A C) → Call → (room : ℕ) → FaultMark → (rank : ℕ) → lent.Reserved → (model.Store → Type 0) → Type 0
  RanksFilling old new call room mark rank filling P =
      IsRanked old.me.0 new.me.0 (model_request call room) mark rank (without_pair (filling_pair filling) old.me.0.holding) (DecidesBefore (world shared) P)

  -- the same of a turn that had begun, with the pass as it was before the turn
  abbrev pub EndsAfter : (before old new : Pass V D A C) → Call → (room : ℕ) → FaultMark → (rank : ℕ) → (model.Store → Type 0) → Type 0
  EndsAfter before old new call room mark rank P =
      IsEnteredAfter before.me.0 new.me.0 (model_request call room) mark rank before.me.0.holding (entries_of old.me.0.seen) (DecidesAfter (world shared) P)

  -- one that was refused as it looked for a key, which is the secure element's only where it was so in the store before
  abbrev pub EndsRefused : (before old new : Pass V D A C) → Call → (room rank : ℕ) → (rows : Option model.Key → Option Status) → (id : ℕ) → Status → Store D A C → Type 0
  EndsRefused before old new call room rank rows id status store =
      EndsAfter before old new call room (mark_of status) rank (λ m. IsRefused rows id status m × (is_opaque_key (map.get m.keys id) ≡ true → HasOpaque d a c store id))

  abbrev pub EndsLent : (before old new : Pass V D A C) → Call → (room rank : ℕ) → lent.Reading → (model.Store → Type 0) → Type 0
  EndsLent before old new call room rank lease P =
      IsEnteredAfter before.me.0 new.me.0 (model_request call room) Plain rank (lease_pair lease ∷ before.me.0.holding) (entries_of old.me.0.seen) (DecidesAfter (world shared) P)
