-- Who reads the slots of a table.
use Rattle.std.specs.Prelude.{◌≡◌, ◌<◌, ℕ, List}
use Rattle.slot_table.specs.Slots.{Slot, slot_at}

-- nobody reads a slot
abbrev pub AllUnread : List Slot → Type 0
AllUnread slots = (i : ℕ) → (slot_at slots i).readers ≡ 0

-- a slot that is read stays as it is
abbrev pub ReadStay : List Slot → List Slot → Type 0
ReadStay old new = (i : ℕ) → 0 < (slot_at old i).readers → slot_at new i ≡ slot_at old i
