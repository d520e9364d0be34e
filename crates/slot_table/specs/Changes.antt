-- What the calls of a table make of a slot and of recency.
use Rattle.std.specs.Prelude.{ℕ, ◌+◌, ◌-◌, ◌==◌, not, if◌then◌else◌, List, filter}
use Rattle.slot_states.specs.declared.SlotState.TheVariants.{Full, Pending}
use Rattle.key_attributes.specs.declared.Attributes.{Attributes}
use Rattle.secret_bytes.specs.Buffer.{buffer_of}
use Rattle.slot_table.specs.Slots.{Slot, empty_slot, is_last}

-- a slot with a new key, which nobody reads
abbrev pub full_slot : ℕ → Attributes → List ℕ → Slot
full_slot creation attributes bytes = record { state = Full; readers = 0; creation = creation; attributes = attributes; buffer = buffer_of bytes }

-- one reader more
abbrev pub registered : Slot → Slot
registered s = record s { readers = s.readers + 1 }

-- one reader less; the last one empties a pending slot
abbrev pub left : Slot → Slot
left s = if is_last s then empty_slot else record s { readers = s.readers - 1 }

-- its key is destroyed: it is pending where it is read, and empty where it isn't
abbrev pub destroyed_slot : Slot → Slot
destroyed_slot s = if s.readers == 0 then empty_slot else record s { state = Pending }

-- recency without a slot
abbrev pub recency_without : ℕ → List ℕ → List ℕ
recency_without slot recency = filter (λ other. not (other == slot)) recency
