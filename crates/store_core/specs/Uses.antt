-- What a turn that looks for a key finds, and what it leaves.
use Rattle.std.specs.{Prelude.◌≡◌, Prelude.◌<◌, Prelude.◌⊎◌, Prelude.ℕ, Prelude.true, Prelude.List, Prelude.Option, Prelude.Some, Prelude.None, Prelude.if◌then◌else◌, Option.option_map}
use Rattle.std.specs.FinMap as map
use Rattle.psa_status.specs.{declared.Status.Status, declared.Status.TheVariants.InvalidHandle, declared.Status.TheVariants.StorageFailure, declared.Status.TheVariants.HardwareFailure, declared.Status.TheVariants.DataCorrupt, Rows.first_row}
use Rattle.key_attributes.specs.declared.Attributes.{Attributes}
use Rattle.secret_bytes.specs.Buffer.{bytes_of}
use Rattle.key_cells.specs.declared.state.CellState as cell
use Rattle.key_cells.specs.{declared.state.CellState.TheVariants.Free, declared.cells.CellFault.CellFault, Prelude.cell_state, Prelude.has_id, Prelude.cell_count}
use Rattle.key_cells.specs.declared.cells.CellFault.TheVariants as cell_fault
use Rattle.driver_dispatch.specs.Held.{HeldKeys, without_key}
use Rattle.slot_table.specs.{Slots.Slot, Slots.empty_slot, Slots.holds_key, Slots.slot_at, Changes.destroyed_slot}
use Rattle.slot_table.specs.Lent as lent
use Rattle.key_slots.specs.{Standing.SlotHasKey, Wiping.KeepsSlot}
use Rattle.store_model.specs.Store as model
use Rattle.store_model.specs.Prelude.{Key, is_opaque, is_persistent_key, is_opaque_key, FaultMark, Plain, Storage, Hardware, Reading, Writing, destroy_rows}
use Rattle.store_model.specs.Faults as fault
use Rattle.store_core.specs.{declared.destroying.NotDestroyed.NotDestroyed, declared.reading.Unread.Unread, declared.reading.Unread.TheVariants.Missing, declared.reading.Unread.TheVariants.Disk, declared.reading.Unread.TheVariants.Corrupt}
use Rattle.store_core.specs.declared.destroying.NotDestroyed.TheVariants as undestroyed

-- what a call answers that didn't find its key
abbrev pub status_of : Unread → Status
status_of Missing = InvalidHandle
status_of Disk = StorageFailure
status_of Corrupt = DataCorrupt

-- why a key is unread whose cell could not be loaded
abbrev pub unread_by : CellFault → Unread
unread_by cell_fault.Corrupt = Corrupt
unread_by _ = Disk

-- the mark of a turn that was refused so as it looked for a key
abbrev pub mark_of : Status → FaultMark
mark_of StorageFailure = Storage Reading
mark_of DataCorrupt = fault.Corrupt
mark_of _ = Plain

-- a lease is of this key, and has its bytes
pub record IsOfKey (lease : lent.Reading) (key : Key) : Type 0 where
  pub number : lease.creation ≡ key.number
  pub bytes : bytes_of lease.buffer ≡ key.bytes

-- the key of an identifier is lent, of which no row holds
abbrev pub IsLent : (rows : Option Key → Option Status) → (id : ℕ) → lent.Reading → model.Store → Type 0
IsLent rows id lease m = (key : Key) × (map.get m.keys id ≡ Some key) × (rows (Some key) ≡ None) × IsOfKey lease key

-- the key of an identifier is a persistent one
abbrev pub HasPersistent : (id : ℕ) → model.Store → Type 0
HasPersistent id m = is_persistent_key (map.get m.keys id) ≡ true

-- the status is that of the first row, or, where the file failed, the key is a persistent one
abbrev pub IsRefused : (rows : Option Key → Option Status) → (id : ℕ) → Status → model.Store → Type 0
IsRefused rows id StorageFailure m = HasPersistent id m
IsRefused rows id DataCorrupt m = HasPersistent id m
IsRefused rows id status m = rows (map.get m.keys id) ≡ Some status

-- the slot has the key of an identifier
abbrev pub IsBrought : (id : ℕ) → Slot → model.Store → Type 0
IsBrought id slot m = (key : Key) × (map.get m.keys id ≡ Some key) × SlotHasKey slot key

-- these are the attributes of the key
abbrev pub HasAttributes : (id : ℕ) → Attributes → model.Store → Type 0
HasAttributes id attributes m = (key : Key) × (map.get m.keys id ≡ Some key) × (key.attributes ≡ attributes)

-- the rows of a call that asks for a key alone
abbrev pub there_rows : Option Key → Option Status
there_rows None = Some InvalidHandle
there_rows (Some key) = None

-- each slot keeps what it has, or is empty afterwards
abbrev pub KeepsOrEmpties : (old new : List Slot) → Type 0
KeepsOrEmpties old new = (i : ℕ) → i < 384 → KeepsSlot (slot_at old i) (slot_at new i) ⊎ (slot_at new i ≡ empty_slot)

-- what a call answers that didn't destroy its key for sure
abbrev pub status_undestroyed : NotDestroyed → Status
status_undestroyed undestroyed.Missing = InvalidHandle
status_undestroyed (undestroyed.Disk closed_first) = StorageFailure
status_undestroyed undestroyed.Hardware = HardwareFailure

-- the mark of its turn
abbrev pub mark_undestroyed : NotDestroyed → FaultMark
mark_undestroyed undestroyed.Missing = Plain
mark_undestroyed (undestroyed.Disk closed_first) = Storage (Writing closed_first)
mark_undestroyed undestroyed.Hardware = Hardware

-- and what holds of the model before it
abbrev pub IsUndestroyed : (id : ℕ) → NotDestroyed → model.Store → Type 0
IsUndestroyed id undestroyed.Missing m = first_row (destroy_rows (map.get m.keys id) id) ≡ Some InvalidHandle
IsUndestroyed id (undestroyed.Disk closed_first) m = HasPersistent id m
IsUndestroyed id undestroyed.Hardware m = is_opaque_key (map.get m.keys id) ≡ true

-- no row refuses to destroy the key of an identifier
abbrev pub MayDestroy : (id : ℕ) → model.Store → Type 0
MayDestroy id m = first_row (destroy_rows (map.get m.keys id) id) ≡ None

-- each slot that has the key of an identifier is as a destruction leaves it
abbrev pub EndsSlotsOf : (id : ℕ) → (old new : List Slot) → Type 0
EndsSlotsOf id old new = (i : ℕ) → holds_key id (slot_at old i) ≡ true → slot_at new i ≡ destroyed_slot (slot_at old i)

-- and each cell that has it is free
abbrev pub FreesCellsOf : (id : ℕ) → (old new : List cell.CellState) → Type 0
FreesCellsOf id old new = (c : ℕ) → c < cell_count → has_id id (cell_state old c) ≡ true → cell_state new c ≡ Free

-- A device that tells its keys has lost the key of a slot, where it is the element's, and else has what it had.
abbrev pub IsForgotten : Slot → (old new : Option HeldKeys) → Type 0
IsForgotten slot old new = new ≡ (if is_opaque slot.attributes then option_map (without_key slot.creation) old else old)

-- it has lost the key of an identifier
abbrev pub Forgets : (id : ℕ) → List Slot → (old new : Option HeldKeys) → Type 0
Forgets id slots old new = (i : ℕ) → i < 384 → holds_key id (slot_at slots i) ≡ true → IsForgotten (slot_at slots i) old new
