-- What is zeros in a file: the cells that are free, and so all that have no key where nothing is in doubt.
use Rattle.disk_face.specs.declared.Disk as Disk
use Rattle.driver_dispatch.specs.declared.devices.Devices as Devices
use Rattle.admission.specs.declared.rules.Admission as Admission
use Rattle.std.specs.Prelude.{◌≡◌, ◌≢◌, ◌<◌, ◌⊎◌, ℕ, true, List, [], ◌∷◌, Some, is_some}
use Rattle.disk_face.specs.Moments.{Within}
use Rattle.key_cells.specs.{declared.state.CellState.TheVariants.Free, Prelude.gate, Prelude.body, Prelude.closed, Prelude.opened_gate, Prelude.HasZeros, Prelude.cell_state, Prelude.HoldsKey, Prelude.cell_count}
use Rattle.persistent_keys.specs.{declared.file.KeyFile.KeyFile, Files.Stored, Files.Keys, Files.Doubt, Files.IsDoubtedIn, Calls.StandsForThese}
use Rattle.key_slots.specs.Holdings.{Pairs}
use Rattle.store_model.specs.Prelude.{Service, Entry}
use Rattle.store_core.specs.{declared.store.Store.Store, Represents.Opening, Represents.Stands, Represents.StandsFor}

-- a cell of an image has one of these keys, or is all zeros
abbrev pub HasKeyOrZeros : Keys → ℕ → List ℕ → Type 0
HasKeyOrZeros keys cell image = ((id : ℕ) × (key : Stored) × (keys id ≡ Some key) × (gate cell image ≡ opened_gate) × HoldsKey key.attributes key.bytes (body cell image)) ⊎ HasZeros cell image

-- and only where keys are in doubt, it has the whole body of one of these, whatever its gate, or is closed
abbrev pub HasKeyOrIsClosed : Keys → Doubt → ℕ → List ℕ → Type 0
HasKeyOrIsClosed keys doubt cell image = HasKeyOrZeros keys cell image ⊎ ((doubt ≢ []) × (IsDoubtedIn doubt (body cell image) ⊎ (gate cell image ≡ closed)))

-- a cell that is free before calls and after them is all zeros in every image that a crash within them leaves
abbrev pub LeavesZeros : {D : Type 0} (disks : Disk.Ghosts D) (old new : KeyFile D) → Type 0
LeavesZeros disks old new = (cell : ℕ) → cell < cell_count → cell_state old.cells.states cell ≡ Free → cell_state new.cells.states cell ≡ Free →
    Within (disks.moment old.cells.disk) (disks.moment new.cells.disk) (disks.left_since old.cells.disk) (disks.left_since new.cells.disk) (HasZeros cell)

-- so it is in a file that stands for some keys
abbrev pub FileStaysZeros : {D : Type 0} (disks : Disk.Ghosts D) (old new : KeyFile D) → Type 0
FileStaysZeros disks old new = (keys : Keys) (doubt : Doubt) → StandsForThese disks old keys doubt → LeavesZeros disks old new

-- and in the file of a store that stands for some history, where the disk tells its bytes
abbrev pub StaysZeros : {D A C : Type 0} (disks : Disk.Ghosts D) (elements : Devices.Ghosts A) (admits : Admission.Ghosts C) (old new : Store D A C) → Type 0
StaysZeros disks elements admits old new = (start : Service) (opening : Opening) (h : List Entry) (all : List Pairs) →
    StandsFor disks elements admits old start opening h all → is_some (disks.contents old.file.cells.disk) ≡ true → LeavesZeros disks old.file new.file

-- OVER MANY TURNS

-- the last of some stores, one after another
abbrev pub last_store : {D A C : Type 0} → Store D A C → List (Store D A C) → Store D A C
last_store store [] = store
last_store store (next ∷ rest) = last_store next rest

module _ {D A C : Type 0} (disks : Disk.Ghosts D) (elements : Devices.Ghosts A) (admits : Admission.Ghosts C) where
  -- a turn of a store that stands for some history, over a disk that tells its bytes, ends with this cell free
  pub record LeavesFree (cell : ℕ) (old new : Store D A C) : Type 0 where
    pub stands : Stands disks elements admits old
    pub tells : is_some (disks.contents old.file.cells.disk) ≡ true
    pub zeros : StaysZeros disks elements admits old new
    pub free : cell_state new.file.cells.states cell ≡ Free

  -- and so does each of some turns, one after another
  abbrev pub StaysFree : (cell : ℕ) → Store D A C → List (Store D A C) → Type 0
  StaysFree cell store [] = Unit {0}
  StaysFree cell store (next ∷ rest) = LeavesFree cell store next × StaysFree cell next rest
