-- What a store promises, whatever start, history and holdings it stands for.
use Rattle.disk_face.specs.declared.Disk as Disk
use Rattle.driver_dispatch.specs.declared.devices.Devices as Devices
use Rattle.admission.specs.declared.rules.Admission as Admission
use Rattle.std.specs.{Prelude.◌≡◌, Prelude.◌⊎◌, Prelude.◌<◌, Prelude.◌≤◌, Prelude.◌+◌, Prelude.ℕ, Prelude.true, Prelude.List, Prelude.[], Prelude.◌∷◌, Prelude.◌++◌, Prelude.length, Prelude.is_some, List.AllByRecursion}
use Rattle.psa_status.specs.declared.Status.TheVariants.{Success}
use Rattle.disk_face.specs.Moments.{Within, done_at}
use Rattle.key_cells.specs.{declared.state.CellState.TheVariants.Free, Prelude.HasZeros, Prelude.cell_state, Prelude.cell_count}
use Rattle.slot_table.specs.Slots.{empty_slot, filling_slot, slot_at}
use Rattle.key_slots.specs.Holdings.{Pairs, named}
use Rattle.store_model.specs.Prelude.{HasNumber, IsSound, Service, Plain, plain_step, Entry, replay, GainsNothing, IsCaller, found_made, made_after}
use Rattle.store_core.specs.{declared.store.Store.Store, Durability.FitsPrefix, Durability.course_of, Durability.durable_keys, Freed.FreedCellsAreZeros, Represents.IsTold, Represents.LeavesKeys, Represents.Opening, Represents.Stands, Represents.StandsFor, Zeros.HasKeyOrZeros, Zeros.StaysFree, Zeros.last_store}

module _ {D A C : Type 0} (disks : Disk.Ghosts D) (elements : Devices.Ghosts A) (admits : Admission.Ghosts C) (store : Store D A C) where
  -- ON CRASHES, over a disk that tells its bytes

  -- a crash since the opening has left the keys of some prefix of the history
  abbrev pub LeavesPrefixSinceOpening : Type 0
  LeavesPrefixSinceOpening = (start : Service) (opening : Opening) (h : List Entry) (all : List Pairs) → StandsFor disks elements admits store start opening h all →
      is_some (disks.contents store.file.cells.disk) ≡ true → (image : List ℕ) → disks.left_since store.file.cells.disk opening.moment image →
      (count : ℕ) × (count ≤ length h) × FitsPrefix image start h count

  -- and one since a call was done those of a prefix that holds the call
  abbrev pub LeavesPrefixSinceDone : Type 0
  LeavesPrefixSinceDone = (start : Service) (opening : Opening) (h : List Entry) (all : List Pairs) → StandsFor disks elements admits store start opening h all →
      is_some (disks.contents store.file.cells.disk) ≡ true → (k : ℕ) → k < length h → (image : List ℕ) → disks.left_since store.file.cells.disk (done_at (λ (e : Entry). e.done) h k) image →
      (count : ℕ) × (k < count) × (count ≤ length h) × FitsPrefix image start h count

  -- a crash leaves zeros in each cell that is free
  abbrev pub LeavesFreeCellsZeros : Type 0
  LeavesFreeCellsZeros = (start : Service) (opening : Opening) (h : List Entry) (all : List Pairs) → StandsFor disks elements admits store start opening h all →
      is_some (disks.contents store.file.cells.disk) ≡ true → (cell : ℕ) → cell < cell_count → cell_state store.file.cells.states cell ≡ Free →
      (image : List ℕ) → disks.may_leave store.file.cells.disk image → HasZeros cell image

  -- where no key is in doubt, it leaves in each cell a key of the file, or zeros
  abbrev pub LeavesKeysOrZeros : Type 0
  LeavesKeysOrZeros = (start : Service) (opening : Opening) (h : List Entry) (all : List Pairs) (s : StandsFor disks elements admits store start opening h all) →
      is_some (disks.contents store.file.cells.disk) ≡ true → (course_of start h).doubt ≡ [] →
      (image : List ℕ) → disks.may_leave store.file.cells.disk image → (cell : ℕ) → cell < cell_count → HasKeyOrZeros (durable_keys s.holds.model) cell image

  -- a cell that is free, over any turns that leave it free, is all zeros in every image that a crash within them leaves
  abbrev pub LeavesZerosOverTurns : Type 0
  LeavesZerosOverTurns = (turns : List (Store D A C)) (cell : ℕ) → cell < cell_count → cell_state store.file.cells.states cell ≡ Free →
      StaysFree disks elements admits cell store turns →
      Within (disks.moment store.file.cells.disk) (disks.moment (last_store store turns).file.cells.disk) (disks.left_since store.file.cells.disk) (disks.left_since (last_store store turns).file.cells.disk) (HasZeros cell)

  -- and a crash since the first of these, whenever it comes, leaves zeros there
  abbrev pub LeavesZerosSince : Type 0
  LeavesZerosSince = (turns : List (Store D A C)) (cell : ℕ) → cell < cell_count → cell_state store.file.cells.states cell ≡ Free →
      Stands disks elements admits store → is_some (disks.contents store.file.cells.disk) ≡ true → StaysFree disks elements admits cell store turns →
      (image : List ℕ) → disks.left_since (last_store store turns).file.cells.disk (disks.moment store.file.cells.disk) image → HasZeros cell image

  -- the cells that the history has freed are all zeros since, until a creation takes them
  abbrev pub LeavesFreedCellsZeros : Type 0
  LeavesFreedCellsZeros = (start : Service) (opening : Opening) (h : List Entry) (all : List Pairs) → StandsFor disks elements admits store start opening h all →
      is_some (disks.contents store.file.cells.disk) ≡ true → FreedCellsAreZeros (disks.left_since store.file.cells.disk) start h

  -- ON SLOTS

  -- a slot has as many readers as the callers have leases of its key
  abbrev pub HasReadersByLeases : Type 0
  HasReadersByLeases = (start : Service) (opening : Opening) (h : List Entry) (all : List Pairs) → StandsFor disks elements admits store start opening h all →
      (i : ℕ) → i < 384 → (slot_at store.slots.table.slots i).readers ≡ named i ((slot_at store.slots.table.slots i).creation + 1) all

  -- a slot keeps the key of a lease that is out
  abbrev pub KeepsLeasedKeys : Type 0
  KeepsLeasedKeys = (start : Service) (opening : Opening) (h : List Entry) (all : List Pairs) → StandsFor disks elements admits store start opening h all →
      (i number : ℕ) → 0 < named i (number + 1) all → (slot_at store.slots.table.slots i).creation ≡ number

  -- what stands under the number of a key that is destroyed, and of which no lease is out, is wiped
  abbrev pub WipesDestroyedKeys : Type 0
  WipesDestroyedKeys = (start : Service) (opening : Opening) (h : List Entry) (all : List Pairs) (s : StandsFor disks elements admits store start opening h all) →
      (number : ℕ) → (HasNumber s.holds.model number → ⊥) → ((i : ℕ) → named i (number + 1) all ≡ 0) → (i : ℕ) → i < 384 → (slot_at store.slots.table.slots i).creation ≡ number →
      (slot_at store.slots.table.slots i ≡ empty_slot) ⊎ (slot_at store.slots.table.slots i ≡ filling_slot)

  -- ON KEYS

  -- a request that is refused though no device failed leaves all keys
  abbrev pub LeavesKeysWhereRefused : Type 0
  LeavesKeysWhereRefused = (start : Service) (h : List Entry) (e : Entry) → e.mark ≡ Plain →
      (IsTold (disks.contents store.file.cells.disk) start (h ++ e ∷ []) → (plain_step (replay start h) e.caller e.call).reply.status ≡ Success → ⊥) →
      LeavesKeys disks elements admits store start h e

  -- no chain of copies gains a flag or an algorithm
  abbrev pub GainsNothingByCopies : Type 0
  GainsNothingByCopies = (start : Service) (opening : Opening) (h : List Entry) (all : List Pairs) (s : StandsFor disks elements admits store start opening h all) →
      IsSound start → AllByRecursion IsCaller h → IsTold (disks.contents store.file.cells.disk) start h → GainsNothing (made_after start h (found_made start.store)) s.holds.model
