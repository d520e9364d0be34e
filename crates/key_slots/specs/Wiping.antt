-- What a call ends of the slots: a slot ends where it loses its key, or its filling, or where its key waits for its last reader.
use Rattle.std.specs.Prelude.{◌≡◌, ◌<◌, ◌⊎◌, ℕ, true, List}
use Rattle.slot_states.specs.declared.SlotState.TheVariants.{Filling}
use Rattle.slot_table.specs.Slots.{Slot, slot_at, is_empty_state, is_idle, is_last, holds_key}

-- a slot has what it had; how many read it may change
pub record KeepsSlot (old new : Slot) : Type 0 where
  pub state : new.state ≡ old.state
  pub creation : new.creation ≡ old.creation
  pub attributes : new.attributes ≡ old.attributes
  pub buffer : new.buffer ≡ old.buffer

-- each slot keeps what it has, but for those that may end, by their numbers and by what they were
abbrev pub EndsOnly : (old new : List Slot) (allowed : ℕ → Slot → Type 0) → Type 0
EndsOnly old new allowed = (i : ℕ) → i < 384 → KeepsSlot (slot_at old i) (slot_at new i) ⊎ allowed i (slot_at old i)

-- it is this slot, and it waits for its key
abbrev pub IsFillingOf : (slot i : ℕ) → Slot → Type 0
IsFillingOf slot i s = (i ≡ slot) × (s.state ≡ Filling)

-- it is this slot, and its key is destroyed and just one still reads it
abbrev pub IsLastOf : (slot i : ℕ) → Slot → Type 0
IsLastOf slot i s = (i ≡ slot) × (is_last s ≡ true)

-- a slot is empty, or has a persistent key that nobody reads
abbrev pub IsEmptyOrIdle : Slot → Type 0
IsEmptyOrIdle s = (is_empty_state s.state ≡ true) ⊎ (is_idle s ≡ true)

-- it is this slot, and it can be taken for another key
abbrev pub IsTakenOf : (slot i : ℕ) → Slot → Type 0
IsTakenOf slot i s = (i ≡ slot) × IsEmptyOrIdle s

-- it has the key of this identifier, which is persistent and which nobody reads
abbrev pub IsIdleOf : (id : ℕ) → Slot → Type 0
IsIdleOf id s = (holds_key id s ≡ true) × (is_idle s ≡ true)

-- one slot at most ends, which could be taken for another key
abbrev pub TakesOne : (old new : List Slot) → Type 0
TakesOne old new = (slot : ℕ) × EndsOnly old new (IsTakenOf slot)
