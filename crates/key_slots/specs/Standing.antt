-- What it is for slots to stand for the keys of the one-thread store, and for what callers have out of them.
use Rattle.std.specs.Prelude.{◌≡◌, ◌<◌, ◌≤◌, ◌⊎◌, ℕ, ◌+◌, ◌==◌, cond, Bool, true, false, List, [], Option, Some, None, if◌then◌else◌}
use Rattle.std.specs.FinMap as map
use Rattle.slot_states.specs.{declared.SlotState.SlotState, declared.SlotState.TheVariants.Filling}
use Rattle.secret_bytes.specs.Buffer.{bytes_of}
use Rattle.slot_table.specs.Slots.{Slot, slot_at, is_full, is_pending, holds_key}
use Rattle.store_model.specs.Prelude.{Key, Store, is_volatile, is_opaque}
use Rattle.key_slots.specs.Holdings.{Pairs, named}

-- the bytes that a slot has of a key: none of one that a secure element holds
abbrev pub slot_bytes : Key → List ℕ
slot_bytes key = if is_opaque key.attributes then [] else key.bytes

-- a slot has this key
pub record SlotHasKey (s : Slot) (key : Key) : Type 0 where
  pub number : s.creation ≡ key.number
  pub attributes : s.attributes ≡ key.attributes
  pub bytes : bytes_of s.buffer ≡ slot_bytes key

-- the creation number of a key that the next call makes
abbrev pub next_number : Store → ℕ
next_number store = store.found + store.calls

-- no key has this creation number, which was given out
pub record IsGone (store : Store) (number : ℕ) : Type 0 where
  pub given : number < next_number store
  pub absent : (id : ℕ) (key : Key) → map.get store.keys id ≡ Some key → key.number ≡ number → ⊥

abbrev pub is_filling : SlotState → Bool
is_filling Filling = true
is_filling _ = false

-- how many pairs name a slot with the second number n: one where it waits for its key, and its readers
abbrev pub pairs_on : Slot → (n : ℕ) → ℕ
pairs_on s n = cond (n == 0) (cond (is_filling s.state) 1 0) (cond (n == s.creation + 1) s.readers 0)

-- The slot i stands for the keys and for what is out: a full one has a key of the store, and the key of a pending one is gone.
pub record StandsAt (store : Store) (all : List Pairs) (i : ℕ) (s : Slot) : Type 0 where
  pub held : (n : ℕ) → named i n all ≡ pairs_on s n
  pub full : is_full s.state ≡ true → (key : Key) × (map.get store.keys s.attributes.id.0 ≡ Some key) × SlotHasKey s key
  pub pending : is_pending s.state ≡ true → IsGone store s.creation

-- all slots do; each volatile key has a slot, and a persistent one may
pub record Agrees (slots : List Slot) (store : Store) (all : List Pairs) : Type 0 where
  pub each : (i : ℕ) → i < 384 → StandsAt store all i (slot_at slots i)
  pub beyond : (i n : ℕ) → 384 ≤ i → named i n all ≡ 0
  pub found : (id : ℕ) (key : Key) → map.get store.keys id ≡ Some key → is_volatile key.attributes ≡ true →
      (i : ℕ) × (i < 384) × (holds_key id (slot_at slots i) ≡ true)

-- the second store has the same keys, and no fewer creation numbers were given out
pub record HasSameKeys (old new : Store) : Type 0 where
  pub keys : new.keys ≡ old.keys
  pub given : next_number old ≤ next_number new

-- the second store has this at an identifier, all other keys are as in the first, and no fewer numbers were given out
pub record Puts (old new : Store) (id : ℕ) (found : Option Key) : Type 0 where
  pub here : map.get new.keys id ≡ found
  pub others : (other : ℕ) → (other ≡ id → ⊥) → map.get new.keys other ≡ map.get old.keys other
  pub given : next_number old ≤ next_number new

-- a key was there before, or has a number that wasn't given out
abbrev pub IsThereOrNew : Store → (id : ℕ) → Key → Type 0
IsThereOrNew store id key = (map.get store.keys id ≡ Some key) ⊎ (next_number store ≤ key.number)

-- a pair is out of slots that agree
pub record IsOut (slots : List Slot) (p : ℕ × ℕ) : Type 0 where
  pub store : Store
  pub all : List Pairs
  pub agrees : Agrees slots store all
  pub out : 0 < named p.0 p.1 all

-- there is a key, and it is volatile
abbrev pub IsVolatileKey : Option Key → Type 0
IsVolatileKey None = ⊥
IsVolatileKey (Some key) = is_volatile key.attributes ≡ true
