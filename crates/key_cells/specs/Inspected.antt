-- What an inspection of an image gives, or refuses it for.
use Rattle.std.specs.{Prelude.◌≡◌, Prelude.◌<◌, Prelude.◌-◌, Prelude.◌++◌, Prelude.ℕ, Prelude.List, Prelude.[], Prelude.◌∷◌, Prelude.length, Prelude.map, Prelude.take, Prelude.drop, Prelude.count_by, Prelude.Option, Prelude.None, Prelude.Some, Prelude.⊤, List.range_with_len, List.slice_get}
use Rattle.secret_bytes.specs.Buffer.{bytes_of}
use Rattle.key_attributes.specs.declared.Attributes.{Attributes}
use Rattle.key_cells.specs.{declared.inspecting.FoundKey.FoundKey, declared.inspecting.InspectFault.InspectFault, declared.inspecting.InspectFault.TheVariants.NotAStore, declared.inspecting.InspectFault.TheVariants.DamagedCell, declared.inspecting.InspectFault.TheVariants.Memory, Layout.cells_of, Layout.gate, Layout.body, Body.HoldsKey, Image.IsOpen, Image.IsStoreFile, Image.IsFirstDamaged}
use Rattle.key_cells.specs.Opening.{is_opened}

-- how many of the first so many cells are open
unfoldable pub open_cells : ℕ → List ℕ → ℕ
open_cells count image = count_by is_opened (map (λ cell. gate cell image) (range_with_len 0 count))

-- the key at this place among others is that of a body
abbrev pub HasKeyOf : List FoundKey → ℕ → List ℕ → Type 0
HasKeyOf keys place body = (key : FoundKey) × (slice_get keys place ≡ Some key) × HoldsKey key.attributes (bytes_of key.bytes) body

-- These are the keys of an image's first so many cells, in their order: one for each open cell, behind those of the open
-- cells before it.
pub record AreFirstKeys (count : ℕ) (keys : List FoundKey) (image : List ℕ) : Type 0 where
  pub no_others : length keys ≡ open_cells count image
  pub each : (cell : ℕ) → cell < count → IsOpen cell image → HasKeyOf keys (open_cells cell image) (body cell image)

-- all keys of an image, in the order of its cells
abbrev pub AreKeysOf : List FoundKey → List ℕ → Type 0
AreKeysOf keys image = AreFirstKeys (cells_of image) keys image

-- what an image is refused for: it is no store, or its first damaged cell is this one
abbrev pub IsInspectFaultOf : InspectFault → List ℕ → Type 0
IsInspectFaultOf NotAStore image = IsStoreFile image → ⊥
IsInspectFaultOf (DamagedCell cell) image = IsFirstDamaged image cell
IsInspectFaultOf Memory image = ⊤

-- the key that was read of a cell's bytes stands behind those that were kept before
abbrev pub KeepsKey : Option (Attributes × ℕ) → List ℕ → List FoundKey → List FoundKey → Type 0
KeepsKey None bytes old new = new ≡ old
KeepsKey (Some read) bytes old new = (key : FoundKey) × (new ≡ old ++ key ∷ []) × (key.attributes ≡ read.0) × (bytes_of key.bytes ≡ take (read.1 - 52) (drop 52 bytes))
