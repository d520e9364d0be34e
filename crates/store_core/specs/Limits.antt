-- What a store is refused for, and the limits of its ranges.
use Rattle.disk_face.specs.declared.Disk as Disk
use Rattle.std.specs.Prelude.{◌≡◌, ℕ, ◌<◌, ◌≤◌, true, List, count_by}
use Rattle.key_cells.specs.declared.state.CellState as cell
use Rattle.key_cells.specs.Prelude.{IsOpened, IsOpeningRefused, is_of_range}
use Rattle.store_model.specs.{declared.limits.Limits.Limits, Prelude.is_per_range, Prelude.range_limit}
use Rattle.store_core.specs.{declared.opening.StoreFault.StoreFault, declared.opening.StoreFault.TheVariants.File, declared.opening.StoreFault.TheVariants.RangeFull}

-- with limits by range, no range has more keys than it may
abbrev pub HasRoom : Limits → List cell.CellState → Type 0
HasRoom limits states = is_per_range limits ≡ true → (range : ℕ) → count_by (is_of_range range) states ≤ range_limit

-- this range has, and none below it
pub record IsFirstOver (states : List cell.CellState) (range : ℕ) : Type 0 where
  pub here : range_limit < count_by (is_of_range range) states
  pub below : (other : ℕ) → other < range → count_by (is_of_range other) states ≤ range_limit

abbrev pub IsRangeFull : Limits → List cell.CellState → ℕ → Type 0
IsRangeFull limits states range = (is_per_range limits ≡ true) × IsFirstOver states range

-- A store wasn't opened: its file wasn't, or it was and a range of it is full.
abbrev pub IsUnopened : {D : Type 0} → Disk.Ghosts D → Limits → D → D → StoreFault → Type 0
IsUnopened disks limits old new (File fault) = IsOpeningRefused disks old new fault
IsUnopened disks limits old new (RangeFull range) = (states : List cell.CellState) × IsOpened disks old new states × IsRangeFull limits states range
