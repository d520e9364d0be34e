-- What the directory in memory keeps beside the states of the cells.
use Rattle.std.specs.{Prelude.◌≡◌, Prelude.◌<◌, Prelude.◌≤◌, Prelude.◌+◌, Prelude.◌*◌, Prelude.◌/◌, Prelude.◌^◌, Prelude.◌==◌, Prelude.ℕ, Prelude.Bool, Prelude.true, Prelude.false, Prelude.List, Prelude.◌∷◌, Prelude.length, Prelude.get_or, Prelude.count_by, Prelude.cond, List.Sorted.IsPermutation}
use Rattle.key_index.specs.{Index.IsIndexOf, declared.index.Entry.Entry}
use Rattle.key_cells.specs.{declared.state.CellState.CellState, declared.state.CellState.TheVariants.Open, declared.state.CellState.TheVariants.Shut, declared.state.CellState.TheVariants.Unsure, Layout.cell_count, Contents.cell_state, Contents.has_id, Contents.is_open, Opening.HasOneEach}

-- a cell is in doubt: closed, or to be closed, and not known to be all zeros
abbrev pub is_in_doubt : CellState → Bool
is_in_doubt Shut = true
is_in_doubt Unsure = true
is_in_doubt _ = false

-- a state has a key whose identifier passes a test
abbrev pub has_id_by : (ℕ → Bool) → CellState → Bool
has_id_by passes (Open id creation) = passes id
has_id_by passes _ = false

-- or is of a range: identifiers of one range have the same quotient by 2^26
abbrev pub is_of_range : ℕ → CellState → Bool
is_of_range range state = has_id_by (λ id. id / 2 ^ 26 == range) state

-- Cells are in groups of 32. Each cell of one is open.
abbrev pub IsFullGroup : List CellState → ℕ → Type 0
IsFullGroup states group = (cell : ℕ) → 32 * group ≤ cell → cell < 32 * group + 32 → is_open (cell_state states cell) ≡ true

-- the first cell of a group that isn't
pub record IsFirstOfGroup (states : List CellState) (group cell : ℕ) : Type 0 where
  pub from : 32 * group ≤ cell
  pub within : cell < 32 * group + 32
  pub here : is_open (cell_state states cell) ≡ false
  pub before : (other : ℕ) → 32 * group ≤ other → other < cell → is_open (cell_state states other) ≡ true

-- a row has each open cell by the identifier of its key, these groups have no other cells, and so many are in doubt
pub record AreIndexed (states : List CellState) (entries : List Entry) (full : List Bool) (left : ℕ) : Type 0 where
  pub sized : length states ≡ cell_count
  pub index : IsIndexOf (λ id cell. has_id id (cell_state states cell)) entries
  pub once : HasOneEach cell_count states
  pub counted : length entries ≡ count_by is_open states
  pub passing : (passes : ℕ → Bool) → count_by (λ entry. passes entry.id) entries ≡ count_by (has_id_by passes) states
  pub groups : (group : ℕ) → get_or full group false ≡ true → IsFullGroup states group
  pub in_doubt : left ≡ count_by is_in_doubt states

-- a row and a count are others with what a cell of this state adds
abbrev pub HasBeside : CellState → ℕ → List Entry → List Entry → ℕ → ℕ → Type 0
HasBeside (Open id creation) cell more fewer left less = IsPermutation (record { id = id; place = cell } ∷ fewer) more × (left ≡ less)
HasBeside state cell more fewer left less = (more ≡ fewer) × (left ≡ less + cond (is_in_doubt state) 1 0)
