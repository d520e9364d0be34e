-- The slots of the key store and the order in which they were used, and the law that both keep.
use Rattle.std.specs.Prelude.{◌≡◌, ◌≤◌, ◌<◌, ℕ, ◌+◌, ◌==◌, Bool, true, false, ◌&&◌, if◌then◌else◌, List, [], ◌∷◌, length, slice_index_or, find, Some, ◌⊎◌}
use Rattle.slot_states.specs.{declared.SlotState.SlotState, declared.SlotState.TheVariants.Empty, declared.SlotState.TheVariants.Filling, declared.SlotState.TheVariants.Full, declared.SlotState.TheVariants.Pending}
use Rattle.key_attributes.specs.{declared.Attributes.Attributes, Checks.persistence}
use Rattle.secret_bytes.specs.Buffer.{Buffer, bytes_of, buffer_of}

-- a slot: its state, how many read it, and its key, by creation number, attributes (with its identifier) and bytes
pub record Slot : Type 0 where
  pub state : SlotState
  pub readers : ℕ
  pub creation : ℕ
  pub attributes : Attributes
  pub buffer : Buffer

-- a table: its slots by their numbers, and the numbers of its full slots, the least recently registered or filled first
pub record Table : Type 0 where
  pub slots : List Slot
  pub recency : List ℕ

abbrev pub no_attributes : Attributes
no_attributes = record {
  lifetime = record { 0 = 0 };
  id = record { 0 = 0 };
  key_type = record { 0 = 0 };
  bits = 0;
  policy = record { usage = record { 0 = 0 }; alg = record { 0 = 0 }; alg2 = record { 0 = 0 } };
}

-- a slot that is wiped: nobody reads it, its 1,024 bytes are zeros, and so is all else
abbrev pub empty_slot : Slot
empty_slot = record { state = Empty; readers = 0; creation = 0; attributes = no_attributes; buffer = buffer_of [] }

-- a wiped slot that waits for its key
abbrev pub filling_slot : Slot
filling_slot = record empty_slot { state = Filling }

abbrev pub slot_at : List Slot → ℕ → Slot
slot_at slots i = slice_index_or slots i empty_slot

abbrev pub is_empty_state : SlotState → Bool
is_empty_state Empty = true
is_empty_state _ = false

abbrev pub is_full : SlotState → Bool
is_full Full = true
is_full _ = false

abbrev pub is_pending : SlotState → Bool
is_pending Pending = true
is_pending _ = false

-- whether it has the key of this identifier, which can be used
abbrev pub holds_key : ℕ → Slot → Bool
holds_key id s = is_full s.state && (s.attributes.id.0 == id)

-- whether it has a persistent key that nobody reads: such a slot may be purged or evicted
abbrev pub is_idle : Slot → Bool
is_idle s = is_full s.state && persistence s.attributes.lifetime.0 == 1 && s.readers == 0

-- whether its key is destroyed and just one still reads it
abbrev pub is_last : Slot → Bool
is_last s = is_pending s.state && s.readers == 1

-- no slot has the key of this identifier
abbrev pub NoKey : ℕ → List Slot → Type 0
NoKey id slots = (i : ℕ) → holds_key id (slot_at slots i) ≡ false

abbrev pub IsEmptyAt : List Slot → ℕ → Type 0
IsEmptyAt slots i = (i < length slots) × (is_empty_state (slot_at slots i).state ≡ true)

-- none before a place is empty
abbrev pub IsNoneEmptyBefore : List Slot → ℕ → Type 0
IsNoneEmptyBefore slots place = (i : ℕ) → i < place → is_empty_state (slot_at slots i).state ≡ false

abbrev pub NoneEmpty : List Slot → Type 0
NoneEmpty slots = (i : ℕ) → i < length slots → is_empty_state (slot_at slots i).state ≡ false

-- a reservation finds a slot that is empty or idle
abbrev pub CanReserve : List Slot → Type 0
CanReserve slots = (i : ℕ) × (IsEmptyAt slots i ⊎ (is_idle (slot_at slots i) ≡ true))

-- the slot that a reservation takes: an empty one where there is one, and else the first of recency that is idle
abbrev pub IsNext : Table → ℕ → Type 0
IsNext t slot = IsEmptyAt t.slots slot ⊎ (NoneEmpty t.slots × (find (λ i. is_idle (slot_at t.slots i)) t.recency ≡ Some slot))

-- how often a number stands in a row
abbrev pub times : ℕ → List ℕ → ℕ
times i [] = 0
times i (x ∷ xs) = (if x == i then 1 else 0) + times i xs

-- the law of one slot
pub record IsLawfulSlot (s : Slot) : Type 0 where
  pub empty : s.state ≡ Empty → s ≡ empty_slot
  pub filling : s.state ≡ Filling → s ≡ filling_slot
  pub pending : s.state ≡ Pending → 0 < s.readers
  -- what stands past the key's bytes is zeros
  pub short : length (bytes_of s.buffer) ≤ 1024
  pub rest : s.buffer ≡ buffer_of (bytes_of s.buffer)

-- the law of a table
pub record IsLawful (t : Table) : Type 0 where
  pub sized : length t.slots ≡ 384
  pub each : (i : ℕ) → IsLawfulSlot (slot_at t.slots i)
  -- recency has each full slot once, and no other
  pub recent : (i : ℕ) → times i t.recency ≡ (if is_full (slot_at t.slots i).state then 1 else 0)
  -- no two slots have the key of one identifier
  pub one : (id i j : ℕ) → holds_key id (slot_at t.slots i) ≡ true → holds_key id (slot_at t.slots j) ≡ true → i ≡ j
