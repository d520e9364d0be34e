-- What an image of a store file has: keys, or what it is refused for.
use Rattle.std.specs.{Prelude.◌≡◌, Prelude.◌≢◌, Prelude.◌⊎◌, Prelude.◌↔◌, Prelude.ℕ, Prelude.◌<◌, Prelude.◌≤◌, Prelude.List, Prelude.[], Prelude.length, Prelude.take, Prelude.drop, Prelude.MatchOption, Prelude.Option, Int.w32, Int.from_le_bytes}
use Rattle.key_attributes.specs.declared.Attributes.{Attributes}
use Rattle.key_cells.specs.{declared.layout.Layout.Layout, declared.layout.Layout.TheVariants.Current, Layout.HasSize, Layout.cell_count, Layout.cells_of, Layout.header_size, Layout.layout_of, Layout.part, Layout.gate, Layout.body, Layout.opened_gate, Layout.closed, Layout.store_name, Layout.no_more, Contents.HasZeros, Body.HoldsKey, Body.HoldsNoKey}

-- the header and the length of a store
pub record IsStoreFile (image : List ℕ) : Type 0 where
  pub name : part 0 8 image ≡ store_name
  pub rest : part 9 55 image ≡ no_more
  pub size : HasSize (layout_of image) (length image)

abbrev pub IsStoreOf : Layout → List ℕ → Type 0
IsStoreOf layout image = IsStoreFile image × (layout_of image ≡ layout)

abbrev pub HasHeader : List ℕ → ℕ → List ℕ → Type 0
HasHeader header size image = (part 0 header_size image ≡ header) × (length image ≡ size)

-- the layout that a header tells, in a file of so many bytes, or that this is no store's
abbrev pub TellsLayout : Option Layout → List ℕ → ℕ → Type 0
TellsLayout found header size = MatchOption found ((image : List ℕ) → HasHeader header size image → IsStoreFile image → ⊥)
    (λ layout. HasSize layout size × ((image : List ℕ) → HasHeader header size image → IsStoreOf layout image))

abbrev pub IsOpen : ℕ → List ℕ → Type 0
IsOpen cell image = gate cell image ≡ opened_gate

-- the identifier in a body
unfoldable pub identifier_in : List ℕ → ℕ
identifier_in body = from_le_bytes w32 (take 4 (drop 3 body))

-- an open cell is damaged where it holds no key, or the identifier of an earlier open cell
abbrev pub IsDamaged : List ℕ → ℕ → Type 0
IsDamaged image cell = IsOpen cell image × (HoldsNoKey (body cell image)
    ⊎ ((earlier : ℕ) × (earlier < cell) × IsOpen earlier image × (identifier_in (body earlier image) ≡ identifier_in (body cell image))))

-- an image that can be opened
pub record Opens (image : List ℕ) : Type 0 where
  pub store : IsStoreFile image
  pub sound : (cell : ℕ) → cell < cells_of image → IsDamaged image cell → ⊥

-- one that an opening takes: it can be opened, or is a new file's
abbrev pub IsOpenable : List ℕ → Type 0
IsOpenable image = (image ≡ []) ⊎ Opens image

-- one that can't: it is no store, or its first damaged cell is this one
pub record IsNoStore (image : List ℕ) : Type 0 where
  pub some : length image ≢ 0
  pub other : IsStoreFile image → ⊥

pub record IsFirstDamaged (image : List ℕ) (cell : ℕ) : Type 0 where
  pub store : IsStoreFile image
  pub within : cell < cells_of image
  pub here : IsDamaged image cell
  pub before : (other : ℕ) → other < cell → IsDamaged image other → ⊥

-- an image has this key in some open cell
abbrev pub HasKey : Attributes → List ℕ → List ℕ → Type 0
HasKey a key image = (cell : ℕ) × (cell < cells_of image) × IsOpen cell image × HoldsKey a key (body cell image)

-- no cell of an image is open
abbrev pub HasNoOpenCell : List ℕ → Type 0
HasNoOpenCell image = (cell : ℕ) → cell < cell_count → IsOpen cell image → ⊥

-- Another image is a store with each open cell of this one, byte for byte. A cell that 0 closes stays closed by it, and
-- one that is all zeros stays so, as are those that this one has not. It is longer, or has more cells, only once each cell
-- that isn't open is all zeros.
pub record SparesStore (image other : List ℕ) : Type 0 where
  pub store : IsStoreFile other
  pub cells : cells_of image ≤ cells_of other
  pub open_cells : (cell : ℕ) → cell < cells_of image → IsOpen cell image → IsOpen cell other × (body cell other ≡ body cell image)
  pub shut : (cell : ℕ) → cell < cells_of image → gate cell image ≡ closed → gate cell other ≡ closed
  pub zeros : (cell : ℕ) → cell < cells_of image → HasZeros cell image → HasZeros cell other
  pub beyond : (cell : ℕ) → cells_of image ≤ cell → cell < cells_of other → HasZeros cell other
  pub cleared : (length image < length other) ⊎ (cells_of image < cells_of other) → (cell : ℕ) → cell < cells_of image → (IsOpen cell image → ⊥) → HasZeros cell other

-- Another image is a store of today's layout, with each open cell of this one, byte for byte, and zeros in all others.
pub record IsWhole (image other : List ℕ) : Type 0 where
  pub store : IsStoreOf Current other
  pub open_cells : (cell : ℕ) → cell < cells_of image → IsOpen cell image → IsOpen cell other × (body cell other ≡ body cell image)
  pub zeros : (cell : ℕ) → cell < cell_count → (cell < cells_of image → IsOpen cell image → ⊥) → HasZeros cell other

-- each closed cell of an image is all zeros
abbrev pub HasZerosWhereClosed : List ℕ → Type 0
HasZerosWhereClosed image = (cell : ℕ) → cell < cells_of image → (IsOpen cell image → ⊥) → HasZeros cell image

-- another image can be opened, and has the same keys
pub record HoldsSameKeys (image other : List ℕ) : Type 0 where
  pub opens : Opens other
  pub keys : (a : Attributes) (key : List ℕ) → HasKey a key image ↔ HasKey a key other
