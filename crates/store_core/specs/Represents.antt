-- What it is for a store to stand for a start, a history and what the callers have out; and what its turns make of these.
use Rattle.disk_face.specs.declared.Disk as Disk
use Rattle.driver_dispatch.specs.declared.devices.Devices as Devices
use Rattle.admission.specs.declared.rules.Admission as Admission
use Rattle.std.specs.Prelude.{◌≡◌, ◌<◌, ◌≤◌, ◌⊎◌, ℕ, ◌+◌, true, false, List, [], ◌∷◌, ◌++◌, length, slice_index, Option, None, Some, is_some}
use Rattle.std.specs.FinMap as map
use Rattle.key_cells.specs.declared.state.CellState as cell
use Rattle.key_cells.specs.{declared.state.CellState.TheVariants.Open, Prelude.cell_state, Prelude.IsSure, Prelude.cell_count}
use Rattle.persistent_keys.specs.Calls.{StandsForThese}
use Rattle.key_slots.specs.{Holdings.Pairs, Holdings.Gains, Holdings.AreHoldings, Holdings.named, Standing.Agrees}
use Rattle.driver_dispatch.specs.{Held.HeldKeys, Calls.HoldsHandle, Calls.Lacks}
use Rattle.store_model.specs.Store as model
use Rattle.store_model.specs.Prelude.{Key, is_volatile, is_opaque, is_opaque_key, count_persistent, live_volatile, Destroy, FaultMark, Plain, counted, OnStore, IsSoundStore, may_change_keys, Service, Entry, outcome_of, replay, FaultCounts, key_changed, id_read, reads_persistent, IsCaused, AreAllowed, last_counts}
use Rattle.store_core.specs.{declared.store.Store.Store, Durability.durable_keys, Durability.course_of, Durability.KeepsKeys, Freed.HaveFreed, Freed.IsFreeSince}

-- no entry reads a persistent key
abbrev pub ReadsNone : Service → List Entry → Type 0
ReadsNone service [] = Unit {0}
ReadsNone service (e ∷ es) = (reads_persistent service e.caller e.call ≡ false) × ReadsNone (outcome_of service e).service es

-- what a history makes of the keys is told: the disk tells its bytes, or no persistent key was read from it
abbrev pub IsTold : Option (List ℕ) → Service → List Entry → Type 0
IsTold told start h = (is_some told ≡ true) ⊎ ReadsNone start h

-- each persistent key has a cell under its identifier and number, and no cell has another key
pub record IsDirectory (slots : List cell.CellState) (m : model.Store) : Type 0 where
  pub sized : length slots ≡ cell_count
  pub there : (id : ℕ) (key : Key) → map.get m.keys id ≡ Some key → is_volatile key.attributes ≡ false →
      (c : ℕ) × (c < cell_count) × (cell_state slots c ≡ Open id key.number)
  pub only : (c id number : ℕ) → c < cell_count → cell_state slots c ≡ Open id number →
      (key : Key) × (map.get m.keys id ≡ Some key) × (is_volatile key.attributes ≡ false) × (key.number ≡ number)
  pub one : (c other id number another : ℕ) → c < cell_count → other < cell_count → cell_state slots c ≡ Open id number → cell_state slots other ≡ Open id another → c ≡ other

-- a device that tells its keys has each opaque key under its number, and no handle that wasn't given out
pub record HoldsKeys (held : Option HeldKeys) (m : model.Store) : Type 0 where
  pub there : (id : ℕ) (key : Key) → map.get m.keys id ≡ Some key → is_opaque key.attributes ≡ true →
      HoldsHandle held key.number (λ h. h ≡ record { key_type = key.attributes.key_type.0; bytes = key.bytes })
  pub new : (handle : ℕ) → m.found + m.calls ≤ handle → Lacks held handle

-- There is a model of which P holds: sound, with the start's settings and a call for each entry, and where K holds the one-thread
-- store after the history.
pub record HasModel (K : Type 0) (start : Service) (h : List Entry) (P : model.Store → Type 0) : Type 0 where
  pub model : model.Store
  pub replayed : K → model ≡ (replay start h).store
  pub sound : IsSoundStore model
  pub settings : model.settings ≡ start.store.settings
  pub calls : model.calls ≡ length h
  pub holds : P model

-- a store after one more ranked turn
abbrev pub ranked_on : {D A C : Type 0} → Store D A C → Store D A C
ranked_on store = record store { ranked = store.ranked + 1 }

-- what the opening saw: the disk's moment, and how often disk and devices had failed
pub record Opening : Type 0 where
  pub moment : ℕ
  pub counts : FaultCounts

module _ {D A C : Type 0} (disks : Disk.Ghosts D) (elements : Devices.Ghosts A) (admits : Admission.Ghosts C) where
  -- whether what the history makes of the keys is told
  abbrev pub Told : Store D A C → Service → List Entry → Type 0
  Told store start h = IsTold (disks.contents store.file.cells.disk) start h

  -- The store holds the keys of a model: its slots, its directory and its device have them, and its file those that are
  -- durable. The model has the start's settings. Where K holds, it is the one-thread store after the history. Where no key is in
  -- doubt, no cell is. Each crash since the opening leaves what is promised, the cells that were freed are free and zeros, and no
  -- mark of the history is without its fault.
  pub record Holds (K : Type 0) (store : Store D A C) (start : Service) (opening : Opening) (h : List Entry) (all : List Pairs) : Type 0 where
    pub model : model.Store
    pub replayed : K → model ≡ (replay start h).store
    pub sound : IsSoundStore model
    pub settings : model.settings ≡ start.store.settings
    pub labels_are : model.settings.labels ≡ admits.labels store.rules
    pub locations_are : model.settings.locations ≡ elements.locations store.devices
    pub limits_are : model.settings.limits ≡ store.limits
    pub found : model.found ≡ store.found
    pub few : store.found ≤ cell_count
    pub calls : model.calls ≡ store.ranked
    pub made : model.made ≡ store.made
    pub live : (caller : ℕ) → caller ≤ 16 → live_volatile model.keys caller ≡ slice_index store.live caller
    pub kept : count_persistent model.keys ≡ store.kept
    pub ranked : store.ranked ≡ length h
    pub slots : Agrees store.slots.table.slots model all
    pub holdings : AreHoldings all
    pub directory : IsDirectory store.file.cells.states model
    pub device : HoldsKeys (elements.keys store.devices) model
    pub file : is_some (disks.contents store.file.cells.disk) ≡ true →
        StandsForThese disks store.file (durable_keys model) (course_of start h).doubt
    pub sure : is_some (disks.contents store.file.cells.disk) ≡ true → (course_of start h).doubt ≡ [] → IsSure store.file.cells.states
    pub promise : is_some (disks.contents store.file.cells.disk) ≡ true → KeepsKeys (disks.left_since store.file.cells.disk) (disks.moment store.file.cells.disk) opening.moment start h
    pub freed : is_some (disks.contents store.file.cells.disk) ≡ true → HaveFreed (IsFreeSince disks store.file.cells.disk store.file.cells.states) start h
    pub caused : IsCaused (is_some (disks.contents store.file.cells.disk)) opening.counts h
    pub allowed : Told store start h → AreAllowed start h

  -- The store stands for a start, a history and holdings: it holds the keys of the one-thread store after the history, as far
  -- as that is told, and no device was called since the last entry.
  pub record StandsFor (store : Store D A C) (start : Service) (opening : Opening) (h : List Entry) (all : List Pairs) : Type 0 where
    pub holds : Holds (Told store start h) store start opening h all
    pub counts : last_counts opening.counts h ≡ record { faults = disks.faults store.file.cells.disk; device_faults = elements.faults store.devices }

  -- an entry as a ranked turn leaves it: by one of sixteen callers, with its mark, the disk's moment and both counts
  pub record IsEntry (store : Store D A C) (mark : FaultMark) (e : Entry) : Type 0 where
    pub from_first : 1 ≤ e.caller
    pub to_last : e.caller ≤ 16
    pub marked : e.mark ≡ mark
    pub done : e.done ≡ disks.moment store.file.cells.disk
    pub disk_faults : e.faults ≡ disks.faults store.file.cells.disk
    pub device_faults : e.device_faults ≡ elements.faults store.devices

  -- The request of an entry leaves all keys: as far as that is told, the one-thread store is as it was but for the count of
  -- calls, and no key is made or destroyed.
  pub record LeavesKeys (store : Store D A C) (start : Service) (h : List Entry) (e : Entry) : Type 0 where
    pub counted_only : Told store start (h ++ e ∷ []) → (outcome_of (replay start h) e).service.store ≡ counted (replay start h).store
    pub changes_none : Told store start (h ++ e ∷ []) → key_changed (replay start h) e.caller e.call ≡ None

  -- its request changes no key, and reads that of an identifier
  pub record IsReading (store : Store D A C) (start : Service) (h : List Entry) (e : Entry) (id : ℕ) : Type 0 where
    pub quiet : may_change_keys e.call ≡ false
    pub reads : Told store start h → id_read (replay start h) e.caller e.call ≡ Some id

  -- P holds of the model, whatever the store stands for
  abbrev pub HoldsOf : Store D A C → (model.Store → Type 0) → Type 0
  HoldsOf store P = (start : Service) (opening : Opening) (h : List Entry) (all : List Pairs) (s : StandsFor store start opening h all) → P s.holds.model

  -- the key of an identifier is the secure element's
  abbrev pub HasOpaque : Store D A C → (id : ℕ) → Type 0
  HasOpaque store id = HoldsOf store (λ m. is_opaque_key (map.get m.keys id) ≡ true)

  module _ (old new : Store D A C) where
    -- A turn without rank gives a pair out, takes one back, or leaves all.
    abbrev pub Gives : ℕ × ℕ → Type 0
    Gives p = (start : Service) (opening : Opening) (h : List Entry) (all more : List Pairs) →
        StandsFor old start opening h all → Gains all more p → AreHoldings more → StandsFor new start opening h more

    abbrev pub Takes : ℕ × ℕ → Type 0
    Takes p = (start : Service) (opening : Opening) (h : List Entry) (all less : List Pairs) →
        StandsFor old start opening h all → Gains less all p → AreHoldings less → StandsFor new start opening h less

    -- a ranked turn whose request leaves all keys and reads none
    abbrev pub Adds : Type 0
    Adds = (start : Service) (opening : Opening) (h : List Entry) (all : List Pairs) (e : Entry) →
        StandsFor old start opening h all → LeavesKeys old start h e → IsEntry new Plain e → StandsFor new start opening (h ++ e ∷ []) all

    -- one of whose model P holds afterwards
    abbrev pub AddsAs : (model.Store → Type 0) → Type 0
    AddsAs P = (start : Service) (opening : Opening) (h : List Entry) (all : List Pairs) (e : Entry) →
        StandsFor old start opening h all → LeavesKeys old start h e → IsEntry new Plain e → (n : StandsFor new start opening (h ++ e ∷ []) all) × P n.holds.model

    -- and one in which a pair is used that is out
    abbrev pub Steps : ℕ × ℕ → (model.Store → Type 0) → Type 0
    Steps p P = (start : Service) (opening : Opening) (h : List Entry) (all : List Pairs) (e : Entry) →
        StandsFor old start opening h all → 0 < named p.0 p.1 all → LeavesKeys old start h e → IsEntry new Plain e →
        (n : StandsFor new start opening (h ++ e ∷ []) all) × P n.holds.model

    -- a ranked turn that reads a key, of whose model P holds afterwards
    abbrev pub Reads : (id : ℕ) → FaultMark → (model.Store → Type 0) → Type 0
    Reads id mark P = (start : Service) (opening : Opening) (h : List Entry) (all : List Pairs) (e : Entry) →
        StandsFor old start opening h all → IsReading old start h e id → IsEntry new mark e →
        (n : StandsFor new start opening (h ++ e ∷ []) all) × P n.holds.model

    -- a ranked turn that is to destroy the key of an identifier, where P holds of the model before
    abbrev pub Destroys : (id : ℕ) → FaultMark → (model.Store → Type 0) → Type 0
    Destroys id mark P = (start : Service) (opening : Opening) (h : List Entry) (all : List Pairs) (e : Entry) →
        (s : StandsFor old start opening h all) → e.call ≡ OnStore (Destroy id) → IsEntry new mark e →
        StandsFor new start opening (h ++ e ∷ []) all × P s.holds.model

    abbrev pub ReadsAndGives : (id : ℕ) → ℕ × ℕ → (model.Store → Type 0) → Type 0
    ReadsAndGives id p P = (start : Service) (opening : Opening) (h : List Entry) (all more : List Pairs) (e : Entry) →
        StandsFor old start opening h all → Gains all more p → AreHoldings more → IsReading old start h e id → IsEntry new Plain e →
        (n : StandsFor new start opening (h ++ e ∷ []) more) × P n.holds.model

  -- the store stands for something
  abbrev pub Stands : Store D A C → Type 0
  Stands store = (start : Service) × (opening : Opening) × (h : List Entry) × (all : List Pairs) × StandsFor store start opening h all

  -- and a pair is out of it
  abbrev pub HasOut : Store D A C → ℕ × ℕ → Type 0
  HasOut store p = (start : Service) × (opening : Opening) × (h : List Entry) × (all : List Pairs) × StandsFor store start opening h all × (0 < named p.0 p.1 all)

  module _ (old new : Store D A C) where
    -- Within a ranked turn, a key was looked for: the store holds the keys that it held, as far as the history with the entry
    -- that the turn ends with is told, and P holds of them.
    abbrev pub Brings : (id : ℕ) → (model.Store → Type 0) → Type 0
    Brings id P = (start : Service) (opening : Opening) (h : List Entry) (all : List Pairs) (e : Entry) →
        StandsFor old start opening h all → (Told old start h → id_read (replay start h) e.caller e.call ≡ Some id) →
        (n : Holds (Told new start (h ++ e ∷ [])) new start opening h all) × P n.model
