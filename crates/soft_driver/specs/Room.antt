-- The list of the keys that are held, as a map.
use Rattle.std.specs.{Prelude.◌≡◌, Prelude.◌≢◌, Prelude.◌≤◌, Prelude.◌<◌, Prelude.ℕ, Prelude.List, Prelude.All, Prelude.length, Prelude.map, Prelude.replicate, Prelude.slice_index_or, Prelude.take, List.Sorted.IsNonDecreasingBy}
use Rattle.std.specs.FinMap as finite
use Rattle.driver_dispatch.specs.Held.{HeldKey, HeldKeys}
use Rattle.soft_driver.specs.{Sizes.room, Sizes.IsSized, declared.held.Held.Held}

abbrev pub key_held : Held → HeldKey
key_held h = record { key_type = h.key_type.0; bytes = take h.length h.buffer }

abbrev pub keys_of : List Held → HeldKeys
keys_of held = finite.from_entries (map (λ h. (h.handle, key_held h)) held)

-- the buffer is all zeros
abbrev pub HasClearBuffer : Held → Type 0
HasClearBuffer h = h.buffer ≡ replicate 1024 0

-- the key at an index has this handle
pub record HasHandleAt (held : List Held) (handle index : ℕ) : Type 0 where
  pub within : index < length held
  pub named : (d : Held) → (slice_index_or held index d).handle ≡ handle

-- no key has this handle
abbrev pub LacksHandle : List Held → ℕ → Type 0
LacksHandle held handle = All (λ h. h.handle ≢ handle) held

-- the keys before an index have lower handles, and the others higher ones
pub record IsGapFor (held : List Held) (handle index : ℕ) : Type 0 where
  pub within : index ≤ length held
  pub lower : (k : ℕ) (d : Held) → k < index → (slice_index_or held k d).handle < handle
  pub higher : (k : ℕ) (d : Held) → index ≤ k → k < length held → handle < (slice_index_or held k d).handle

-- the key lies within its buffer, and is as long as its type permits
abbrev pub Lies : Held → Type 0
Lies h = (h.length ≤ 1024) × IsSized (key_held h)

-- Handles rise, and none comes twice. There is room for 4,096 keys.
pub record IsKeyRoom (held : List Held) (capacity : ℕ) : Type 0 where
  pub rising : IsNonDecreasingBy (λ h. h.handle) held
  pub distinct : finite.len (keys_of held) ≡ length held
  pub lies : All Lies held
  pub within : length held ≤ room
  pub reserved : room ≤ capacity
