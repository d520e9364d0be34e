-- What images have while the file of an older store grows.
use Rattle.std.specs.Prelude.{◌≡◌, ℕ, ◌-◌, ◌<◌, ◌≤◌, List, ◌++◌, length, take, replicate, Option, None, Some, ⊤}
use Rattle.key_cells.specs.{Layout.body, Layout.cells_of, Layout.gate, Layout.older_cell_count, Layout.older_size, Layout.store_size, Contents.HasZeros, Image.IsStoreFile}

-- so many zeros
unfoldable pub zeros_of : ℕ → List ℕ
zeros_of count = replicate count 0

-- an image is a store if the older file is one, with the older cells byte for byte, and with zeros in any others
pub record GrowsFrom (old image : List ℕ) : Type 0 where
  pub store : IsStoreFile old → IsStoreFile image
  pub gates : (cell : ℕ) → cell < older_cell_count → gate cell image ≡ gate cell old
  pub bodies : (cell : ℕ) → cell < older_cell_count → body cell image ≡ body cell old
  pub beyond : (cell : ℕ) → older_cell_count ≤ cell → cell < cells_of image → HasZeros cell image

-- an image begins with so many bytes of an older file, and has at most so many
pub record HasFront (size most : ℕ) (old image : List ℕ) : Type 0 where
  pub front : take size image ≡ take size old
  pub low : size ≤ length image
  pub high : length image ≤ most

-- an image has the header and the cells of an older file, and any bytes behind them
abbrev pub HasOlderCells : List ℕ → List ℕ → Type 0
HasOlderCells = HasFront older_size store_size

-- what is read of an older file that was lengthened: its header and its cells, and zeros
abbrev pub ReadsFilled : Option (List ℕ) → Option (List ℕ) → Type 0
ReadsFilled None new = ⊤
ReadsFilled (Some old) new = new ≡ Some (take older_size old ++ zeros_of (store_size - older_size))

-- each image is such
abbrev pub Each : (List ℕ → Type 0) → (List ℕ → Type 0) → Type 0
Each may_leave P = (image : List ℕ) → may_leave image → P image
