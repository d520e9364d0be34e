-- What a turn that creates a key decides, and what it makes of the store.
use Rattle.disk_face.specs.declared.Disk as Disk
use Rattle.driver_dispatch.specs.declared.devices.Devices as Devices
use Rattle.admission.specs.declared.rules.Admission as Admission
use Rattle.std.specs.Prelude.{◌≡◌, ◌<◌, ◌≤◌, ◌⊎◌, ◌+◌, ℕ, true, false, List, [], ◌∷◌, ◌++◌, length, Option, Some, None, Result, Ok, Err}
use Rattle.std.specs.FinMap as map
use Rattle.psa_status.specs.{declared.Status.Status, declared.Status.TheVariants.InvalidHandle, declared.Status.TheVariants.StorageFailure, declared.Status.TheVariants.HardwareFailure}
use Rattle.key_attributes.specs.declared.Attributes.{Attributes}
use Rattle.driver_dispatch.specs.Calls.{HoldsHandle}
use Rattle.secret_bytes.specs.Buffer.{bytes_of}
use Rattle.slot_table.specs.Slots as slots
use Rattle.slot_table.specs.Lent as lent
use Rattle.key_slots.specs.{Holdings.Pairs, Holdings.Gains, Holdings.AreHoldings, Holdings.named, Standing.Agrees, Standing.IsThereOrNew, Standing.Puts, Standing.SlotHasKey}
use Rattle.store_model.specs.Store as model
use Rattle.store_model.specs.Prelude.{is_volatile, is_opaque, FaultMark, Plain, Storage, Hardware, Writing, recorded_of, created, created_unless, new_id, recorded_copy, HasNumber, Service, Copy, OnStore, plain_step, Entry, replay, FaultCounts, last_counts}
use Rattle.store_core.specs.{declared.store.Store.Store, declared.creating.Unkept.Unkept, declared.creating.NotMade.NotMade, declared.copying.NotCopied.NotCopied, Durability.is_destruction, Represents.HasModel, Represents.Told, Represents.Holds, Represents.Opening, Represents.StandsFor, Represents.IsEntry, Uses.status_of, Uses.mark_of, Uses.there_rows, Uses.IsRefused}
use Rattle.store_core.specs.declared.creating.Unkept.TheVariants as unkept
use Rattle.store_core.specs.declared.creating.NotMade.TheVariants as unmade
use Rattle.store_core.specs.declared.copying.NotCopied.TheVariants as uncopied

-- WHAT IS DECIDED

-- What a creation of a key with these stated attributes and so many bytes records, or its first refusal. That of an operation
-- asks first whether the operation's key is there, by its creation number.
abbrev pub RecordsStated : (lease : Option lent.Reading) → (caller : ℕ) → Attributes → (bytes : ℕ) → model.Store → Result Attributes Status → Type 0
RecordsStated None caller a bytes m recorded = recorded ≡ recorded_of m caller a bytes
RecordsStated (Some lease) caller a bytes m recorded =
    (HasNumber m lease.creation × (recorded ≡ recorded_of m caller a bytes)) ⊎ ((HasNumber m lease.creation → ⊥) × (recorded ≡ Err InvalidHandle))

-- and what a copy does
abbrev pub RecordsCopy : (caller source : ℕ) → Attributes → model.Store → Result Attributes Status → Type 0
RecordsCopy caller source stated m recorded = recorded ≡ recorded_copy m caller (map.get m.keys source) stated

-- WHAT A CALL ANSWERS

abbrev pub status_unkept : Unkept → Status
status_unkept (unkept.Unwritten closed_first) = StorageFailure
status_unkept unkept.Hardware = HardwareFailure

abbrev pub mark_unkept : Unkept → FaultMark
mark_unkept (unkept.Unwritten closed_first) = Storage (Writing closed_first)
mark_unkept unkept.Hardware = Hardware

-- the file fails at a persistent key alone, and the device at one that it is to hold
abbrev pub IsUnkept : Attributes → Unkept → Type 0
IsUnkept recorded (unkept.Unwritten closed_first) = is_volatile recorded ≡ false
IsUnkept recorded unkept.Hardware = is_opaque recorded ≡ true

abbrev pub status_unmade : NotMade → Status
status_unmade (unmade.Refused status) = status
status_unmade (unmade.Failed why) = status_unkept why

abbrev pub mark_unmade : NotMade → FaultMark
mark_unmade (unmade.Refused status) = Plain
mark_unmade (unmade.Failed why) = mark_unkept why

abbrev pub status_uncopied : NotCopied → Status
status_uncopied (uncopied.Unread why) = status_of why
status_uncopied (uncopied.NotMade why) = status_unmade why

abbrev pub mark_uncopied : NotCopied → FaultMark
mark_uncopied (uncopied.Unread why) = mark_of (status_of why)
mark_uncopied (uncopied.NotMade why) = mark_unmade why

module _ (records : model.Store → Result Attributes Status → Type 0) where
  -- a key was made with what is recorded, and has this identifier
  abbrev pub IsMade : (caller id : ℕ) → model.Store → Type 0
  IsMade caller id m = (recorded : Attributes) × records m (Ok recorded) × (id ≡ new_id m caller recorded)

  -- none was made: the creation is refused, or, where file or device failed, it isn't
  abbrev pub IsUnmade : NotMade → model.Store → Type 0
  IsUnmade (unmade.Refused status) m = records m (Err status)
  IsUnmade (unmade.Failed why) m = (recorded : Attributes) × records m (Ok recorded) × IsUnkept recorded why

  -- or the source could not be read
  abbrev pub IsUncopied : (source : ℕ) → NotCopied → model.Store → Type 0
  IsUncopied source (uncopied.Unread why) m = IsRefused there_rows source (status_of why) m
  IsUncopied source (uncopied.NotMade why) m = IsUnmade why m

-- where the source could not be read
abbrev pub OnUnread : NotCopied → Type 0 → Type 0
OnUnread (uncopied.Unread why) P = P
OnUnread (uncopied.NotMade why) P = Unit {0}

-- where a row refuses the key
abbrev pub OnRefused : NotMade → Type 0 → Type 0
OnRefused (unmade.Refused status) P = P
OnRefused (unmade.Failed why) P = Unit {0}

-- where a copy was not begun, as its source could not be read or a row refuses it
abbrev pub OnUnbegun : NotCopied → Type 0 → Type 0
OnUnbegun (uncopied.Unread why) P = P
OnUnbegun (uncopied.NotMade why) P = OnRefused why P

-- a lease, where there is one, is out
abbrev pub IsAmong : Option lent.Reading → List Pairs → Type 0
IsAmong None all = Unit {0}
IsAmong (Some lease) all = 0 < named lease.slot (lease.creation + 1) all

module _ {D A C : Type 0} (disks : Disk.Ghosts D) (elements : Devices.Ghosts A) (admits : Admission.Ghosts C) where
  abbrev ToldHere : Store D A C → Service → List Entry → Type 0
  ToldHere = Told disks elements admits

  abbrev HoldsHere : Type 0 → Store D A C → Service → Opening → List Entry → List Pairs → Type 0
  HoldsHere = Holds disks elements admits

  abbrev StandsForHere : Store D A C → Service → Opening → List Entry → List Pairs → Type 0
  StandsForHere = StandsFor disks elements admits

  abbrev IsEntryHere : Store D A C → FaultMark → Entry → Type 0
  IsEntryHere = IsEntry disks elements admits

  -- the store stands for something, of which the lease is out, where there is one; and a pair is
  abbrev pub StandsLent : Store D A C → Option lent.Reading → Type 0
  StandsLent store lease = (start : Service) × (opening : Opening) × (h : List Entry) × (all : List Pairs) × StandsForHere store start opening h all × IsAmong lease all

  abbrev pub HasOutBeside : Store D A C → ℕ × ℕ → Option lent.Reading → Type 0
  HasOutBeside store p lease = (start : Service) × (opening : Opening) × (h : List Entry) × (all : List Pairs) × StandsForHere store start opening h all × (0 < named p.0 p.1 all) × IsAmong lease all

  -- The request of an entry is to create a key. It destroys none, and where no device fails it leaves and answers what a
  -- creation does that records so, of a key with these bytes.
  pub record IsCreating (store : Store D A C) (start : Service) (h : List Entry) (e : Entry) (caller : ℕ) (records : model.Store → Result Attributes Status → Type 0) (bytes : model.Store → List ℕ) : Type 0 where
    pub by : e.caller ≡ caller
    pub keeps : is_destruction e.call ≡ false
    pub leaves : ToldHere store start h → (recorded : Result Attributes Status) → records (replay start h).store recorded →
        (plain_step (replay start h) e.caller e.call).service.store ≡ (created_unless (replay start h).store caller recorded (bytes (replay start h).store)).store
    pub answers : ToldHere store start h → (recorded : Result Attributes Status) → records (replay start h).store recorded →
        (plain_step (replay start h) e.caller e.call).reply ≡ (created_unless (replay start h).store caller recorded (bytes (replay start h).store)).reply

  -- A ranked turn that is to create a caller's key in the slot of a filling, whose pair is taken back, where P holds of the
  -- model before.
  abbrev pub Creates : (old new : Store D A C) (caller : ℕ) → Option lent.Reading → (model.Store → Result Attributes Status → Type 0) → (model.Store → List ℕ) → ℕ × ℕ → FaultMark → (model.Store → Type 0) → Type 0
  Creates old new caller lease records bytes p mark P = (start : Service) (opening : Opening) (h : List Entry) (all less : List Pairs) (e : Entry) →
      (s : StandsForHere old start opening h all) → IsAmong lease all → Gains less all p → AreHoldings less →
      IsCreating old start h e caller records bytes → IsEntryHere new mark e →
      StandsForHere new start opening (h ++ e ∷ []) less × P s.holds.model

  -- one of these stated attributes and bytes, which ends with the key made, or not
  abbrev pub CreatesMade : (old new : Store D A C) (caller : ℕ) → Option lent.Reading → Attributes → List ℕ → (filling id : ℕ) → Type 0
  CreatesMade old new caller lease a bytes filling id =
      Creates old new caller lease (RecordsStated lease caller a (length bytes)) (λ m. bytes) (filling, 0) Plain (IsMade (RecordsStated lease caller a (length bytes)) caller id)

  abbrev pub CreatesUnmade : (old new : Store D A C) (caller : ℕ) → Option lent.Reading → Attributes → List ℕ → (filling : ℕ) → NotMade → Type 0
  CreatesUnmade old new caller lease a bytes filling why =
      Creates old new caller lease (RecordsStated lease caller a (length bytes)) (λ m. bytes) (filling, 0) (mark_unmade why) (IsUnmade (RecordsStated lease caller a (length bytes)) why)

  -- WITHIN A TURN

  -- P holds of the model, whatever the store holds keys for
  abbrev pub HoldsWithin : Store D A C → (model.Store → Type 0) → Type 0
  HoldsWithin store P = (start : Service) (opening : Opening) (h : List Entry) (all : List Pairs) (e : Entry) →
      (s : HoldsHere (ToldHere store start (h ++ e ∷ [])) store start opening h all) → P s.model

  -- and where the lease is out
  abbrev pub HoldsLent : Store D A C → Option lent.Reading → (model.Store → Type 0) → Type 0
  HoldsLent store lease P = (start : Service) (opening : Opening) (h : List Entry) (all : List Pairs) (e : Entry) →
      (s : HoldsHere (ToldHere store start (h ++ e ∷ [])) store start opening h all) → IsAmong lease all → P s.model

  -- the bytes of a new key are those in the buffer, or those of a key that the device has under a number
  abbrev pub IsMaterial : Store D A C → Attributes → (source : Option ℕ) → List ℕ → Type 0
  IsMaterial store recorded None bytes = bytes_of store.buffer ≡ bytes
  IsMaterial store recorded (Some number) bytes = (is_opaque recorded ≡ true) × HoldsHandle (elements.keys store.devices) number (λ h. h ≡ record { key_type = recorded.key_type.0; bytes = bytes })

  -- a store is about to make a key: the table of creations has decided what is recorded, and the bytes are there
  pub record IsAboutToCreate (store : Store D A C) (caller : ℕ) (recorded : Attributes) (source : Option ℕ) (start : Service) (opening : Opening) (h : List Entry) (all : List Pairs) (e : Entry) : Type 0 where
    pub holds : HoldsHere (ToldHere store start (h ++ e ∷ [])) store start opening h all
    pub bytes : List ℕ
    pub material : IsMaterial store recorded source bytes
    pub stated : Attributes
    pub decided : recorded_of holds.model caller stated (length bytes) ≡ Ok recorded

  -- and something stands so, out of which a pair is
  abbrev pub IsSomeReady : Store D A C → (caller : ℕ) → Attributes → (source : Option ℕ) → ℕ × ℕ → Type 0
  IsSomeReady store caller recorded source p =
      (start : Service) × (opening : Opening) × (h : List Entry) × (all : List Pairs) × (e : Entry) × IsAboutToCreate store caller recorded source start opening h all e × (0 < named p.0 p.1 all)

  -- the request is to make this key
  pub record IsMaking (store : Store D A C) (start : Service) (h : List Entry) (e : Entry) (caller : ℕ) (recorded : Attributes) (bytes : List ℕ) : Type 0 where
    pub by : e.caller ≡ caller
    pub keeps : is_destruction e.call ≡ false
    pub leaves : ToldHere store start (h ++ e ∷ []) →
        (plain_step (replay start h) e.caller e.call).service.store ≡ (created (replay start h).store caller recorded bytes).store
    pub answers : ToldHere store start (h ++ e ∷ []) →
        (plain_step (replay start h) e.caller e.call).reply ≡ (created (replay start h).store caller recorded bytes).reply

  -- no device has failed less often than at the last entry
  pub record IsSince (store : Store D A C) (counts : FaultCounts) : Type 0 where
    pub faults_since : counts.faults ≤ disks.faults store.file.cells.disk
    pub device_faults_since : counts.device_faults ≤ elements.faults store.devices

  -- the turn ends with the key made, or not, and P holds of the model before
  abbrev pub Enters : (old new : Store D A C) (caller : ℕ) → Attributes → (source : Option ℕ) → ℕ × ℕ → FaultMark → (model.Store → Type 0) → Type 0
  Enters old new caller recorded source p mark P = (start : Service) (opening : Opening) (h : List Entry) (all less : List Pairs) (e : Entry) →
      (r : IsAboutToCreate old caller recorded source start opening h all e) → IsSince old (last_counts opening.counts h) → Gains less all p → AreHoldings less →
      IsMaking old start h e caller recorded r.bytes → IsEntryHere new mark e →
      StandsForHere new start opening (h ++ e ∷ []) less × P r.holds.model

  abbrev pub EntersMade : (old new : Store D A C) (caller : ℕ) → Attributes → (source : Option ℕ) → (filling id : ℕ) → Type 0
  EntersMade old new caller recorded source filling id = Enters old new caller recorded source (filling, 0) Plain (λ m. id ≡ new_id m caller recorded)

  abbrev pub EntersUnkept : (old new : Store D A C) (caller : ℕ) → Attributes → (source : Option ℕ) → (filling : ℕ) → Unkept → Type 0
  EntersUnkept old new caller recorded source filling why = Enters old new caller recorded source (filling, 0) (mark_unkept why) (λ m. IsUnkept recorded why)

  -- A ranked turn that is to copy a key for a caller, into the slot of a filling, whose pair is taken back. P holds of the
  -- one-thread store before it, as far as that is told with its source read.
  abbrev pub Copies : (old new : Store D A C) (caller source : ℕ) → Attributes → ℕ × ℕ → FaultMark → (model.Store → Type 0) → Type 0
  Copies old new caller source stated p mark P = (start : Service) (opening : Opening) (h : List Entry) (all less : List Pairs) (e : Entry) →
      StandsForHere old start opening h all → Gains less all p → AreHoldings less → e.caller ≡ caller → e.call ≡ OnStore (Copy source stated) → IsEntryHere new mark e →
      StandsForHere new start opening (h ++ e ∷ []) less × HasModel (ToldHere new start (h ++ e ∷ [])) start h P

  abbrev pub CopiesMade : (old new : Store D A C) (caller source : ℕ) → Attributes → (filling id : ℕ) → Type 0
  CopiesMade old new caller source stated filling id = Copies old new caller source stated (filling, 0) Plain (IsMade (RecordsCopy caller source stated) caller id)

  abbrev pub CopiesUnmade : (old new : Store D A C) (caller source : ℕ) → Attributes → (filling : ℕ) → NotCopied → Type 0
  CopiesUnmade old new caller source stated filling why = Copies old new caller source stated (filling, 0) (mark_uncopied why) (IsUncopied (RecordsCopy caller source stated) source why)

-- whatever model the slots agreed with: once the filling's pair is taken back, they agree with the one that has this slot's key under the identifier
abbrev pub FillsWith : (old new : List slots.Slot) (filling : ℕ) → slots.Slot → (id : ℕ) → Type 0
FillsWith old new filling slot id = (before after : model.Store) (all less : List Pairs) (key : model.Key) → Agrees old before all → Gains less all (filling, 0) →
    Puts before after id (Some key) → SlotHasKey slot key → IsThereOrNew before id key → Agrees new after less
