-- What an opening found: the start of each history, and from when on a crash is spoken of.
use Rattle.disk_face.specs.declared.Disk as Disk
use Rattle.driver_dispatch.specs.declared.devices.Devices as Devices
use Rattle.admission.specs.declared.rules.Admission as Admission
use Rattle.std.specs.Prelude.{◌≡◌, ◌<◌, ◌≤◌, ◌↔◌, ℕ, List, [], length, replicate, take, count_by, slice_get, Option, Some, IfSome}
use Rattle.key_cells.specs.declared.state.CellState as cell
use Rattle.key_cells.specs.{declared.state.CellState.TheVariants.Open, Prelude.body, Prelude.cell_state, Prelude.is_open, Prelude.IsKeyOf, Prelude.HoldsKey, Prelude.HasKey, Prelude.cell_count}
use Rattle.key_attributes.specs.declared.Attributes.{Attributes}
use Rattle.store_model.specs.Prelude.{OpenedKey, Settings, Service, service_of, start_of}
use Rattle.store_core.specs.{declared.store.Opened.Opened, declared.store.Store.Store, Represents.Opening, Represents.StandsFor}

-- The keys of a directory's open cells, numbered in the order of these, no two of which have the same identifier. Where the disk
-- tells its bytes, each is the key that its cell has there.
pub record AreOpened (told : Option (List ℕ)) (slots : List cell.CellState) (found : List OpenedKey) : Type 0 where
  pub count : length found ≡ count_by is_open slots
  pub order : (c id number : ℕ) → c < cell_count → cell_state slots c ≡ Open id number → number ≡ count_by is_open (take c slots)
  pub one : (c other id number another : ℕ) → c < cell_count → other < cell_count → cell_state slots c ≡ Open id number → cell_state slots other ≡ Open id another → c ≡ other
  pub each : (c id number : ℕ) → c < cell_count → cell_state slots c ≡ Open id number →
      (key : OpenedKey) × (slice_get found number ≡ Some key) × (key.attributes.id.0 ≡ id) × IsKeyOf key.attributes key.bytes × IfSome told (λ image. HoldsKey key.attributes key.bytes (body c image))

module _ {D A C : Type 0} (disks : Disk.Ghosts D) (elements : Devices.Ghosts A) (admits : Admission.Ghosts C) where
  -- the service before any call: no operation, no random word drawn, and the keys that were found
  pub record IsStart (opened : Opened D A C) (start : Service) : Type 0 where
    pub settings : Settings
    pub found : List OpenedKey
    pub is : start ≡ service_of (start_of settings found)
    pub seed_is : settings.seed ≡ opened.seed.value
    pub labels_are : settings.labels ≡ admits.labels opened.rules.value
    pub locations_are : settings.locations ≡ elements.locations opened.devices.value
    pub limits_are : settings.limits ≡ opened.limits.value
    pub keys : AreOpened (disks.contents opened.file.value.cells.disk) opened.file.value.cells.states found

  -- the disk's moment and the counts of faults as the opening answered
  abbrev pub opening_of : Opened D A C → Opening
  opening_of opened = record {
    moment = disks.moment opened.file.value.cells.disk;
    counts = record { faults = disks.faults opened.file.value.cells.disk; device_faults = elements.faults opened.devices.value };
  }

  -- a store stands for each such service, an empty history, and callers who have nothing out
  abbrev pub BeginsAtStart : Store D A C → Type 0
  BeginsAtStart store = (start : Service) (callers : ℕ) → IsStart store.opened start → callers ≤ 16 →
      StandsFor disks elements admits store start (opening_of store.opened) [] (replicate callers [])

  -- the keys that were found are those of an image
  abbrev pub FindsKeysOf : Opened D A C → List ℕ → Type 0
  FindsKeysOf opened image = (start : Service) (s : IsStart opened start) (a : Attributes) (bytes : List ℕ) →
      HasKey a bytes image ↔ ((number : ℕ) × (slice_get s.found number ≡ Some (record { attributes = a; bytes = bytes })))
