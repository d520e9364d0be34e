-- The two rows in which a table keeps its slots.
use Rattle.std.specs.Prelude.{◌≡◌, ℕ, ◌<◌, false, List, [], ◌∷◌, length, replicate, slice_index_or}
use Rattle.slot_states.specs.declared.SlotState.TheVariants.{Empty}
use Rattle.secret_bytes.specs.Buffer.{buffer_of}
use Rattle.slot_table.specs.{declared.place.Head.Head, declared.place.Stored.Stored, Slots.Slot, Slots.no_attributes, Slots.is_empty_state}

abbrev pub empty_head : Head
empty_head = record { state = Empty }

abbrev pub no_key : Stored
no_key = record { readers = 0; creation = 0; attributes = no_attributes; buffer = buffer_of []; apart = replicate 9 0 }

abbrev pub head_at : List Head → ℕ → Head
head_at heads i = slice_index_or heads i empty_head

abbrev pub stored_at : List Stored → ℕ → Stored
stored_at keys i = slice_index_or keys i no_key

-- no head before a place is that of an empty slot
abbrev pub NoneBefore : List Head → ℕ → Type 0
NoneBefore heads first = (i : ℕ) → i < first → is_empty_state (head_at heads i).state ≡ false

abbrev pub slot_of : Head → Stored → Slot
slot_of head key = record { state = head.state; readers = key.readers; creation = key.creation; attributes = key.attributes; buffer = key.buffer }

abbrev pub slots_of : List Head → List Stored → List Slot
slots_of (head ∷ heads) (key ∷ keys) = slot_of head key ∷ slots_of heads keys
slots_of _ _ = []

-- there are 384 of each, and none before a place is empty
pub record AreRows (heads : List Head) (keys : List Stored) (first : ℕ) : Type 0 where
  pub heads_sized : length heads ≡ 384
  pub keys_sized : length keys ≡ 384
  pub none_before : NoneBefore heads first
