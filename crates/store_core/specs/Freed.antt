-- Which cells of the file the destructions of a history have freed, and that these are zeros.
use Rattle.std.specs.{Prelude.◌≡◌, Prelude.◌≢◌, Prelude.◌⊎◌, Prelude.◌<◌, Prelude.◌≤◌, Prelude.◌==◌, Prelude.ℕ, Prelude.Bool, Prelude.true, Prelude.false, Prelude.cond, Prelude.List, Prelude.[], Prelude.◌∷◌, List.AllByRecursion}
use Rattle.disk_face.specs.declared.Disk as Disk
use Rattle.key_cells.specs.{declared.state.CellState.CellState, declared.state.CellState.TheVariants.Free, Prelude.HasZeros, Prelude.cell_state, Prelude.cell_count}
use Rattle.store_model.specs.Prelude.{FaultMark, Plain, Service, Entry, is_persistent_key, key_changed, outcome_of}
use Rattle.store_core.specs.Durability.{is_destruction}

-- a cell that a destruction has freed, and the moment at which that was done
pub record FreedCell : Type 0 where
  pub cell : ℕ
  pub since : ℕ

-- some freed cells without one
abbrev pub without_cell : ℕ → List FreedCell → List FreedCell
without_cell cell [] = []
without_cell cell (freed ∷ others) = cond (freed.cell == cell) (without_cell cell others) (freed ∷ without_cell cell others)

-- What a call with a mark makes of the freed cells. One that destroys a persistent key for sure frees a cell more, which is none of
-- them; one that makes a persistent key takes at most one of them, whether or not it fails; any other leaves them.
abbrev pub ChangesFreed : (persistent destroys : Bool) → FaultMark → (done : ℕ) → (before after : List FreedCell) → Type 0
ChangesFreed true true Plain done before after = (cell : ℕ) × AllByRecursion (λ (f : FreedCell). f.cell ≢ cell) before × (after ≡ record { cell = cell; since = done } ∷ before)
ChangesFreed true false mark done before after = (after ≡ before) ⊎ ((cell : ℕ) × (after ≡ without_cell cell before))
ChangesFreed _ destroys mark done before after = after ≡ before

-- so the calls of a history do, one after another
abbrev pub HasFreed : Service → List Entry → (before after : List FreedCell) → Type 0
HasFreed service [] before after = after ≡ before
HasFreed service (e ∷ es) before after = (between : List FreedCell)
    × ChangesFreed (is_persistent_key (key_changed service e.caller e.call)) (is_destruction e.call) e.mark e.done before between
    × HasFreed (outcome_of service e).service es between after

-- each cell that a history has freed, and that no creation has taken since, has P
abbrev pub HaveFreed : (FreedCell → Type 0) → Service → List Entry → Type 0
HaveFreed P start h = (freed : List FreedCell) × HasFreed start h [] freed × AllByRecursion P freed

-- a cell is all zeros in every image that a crash since the destruction that freed it has left
abbrev pub IsZerosSince : (left_since : ℕ → List ℕ → Type 0) → FreedCell → Type 0
IsZerosSince left_since freed = (freed.cell < cell_count) × ((image : List ℕ) → left_since freed.since image → HasZeros freed.cell image)

-- Each destruction of a persistent key that succeeded has freed a cell, and each creation of one has taken at most one of these.
-- Those that none has taken are all zeros in every image that a crash since their destruction has left.
abbrev pub FreedCellsAreZeros : (left_since : ℕ → List ℕ → Type 0) → Service → List Entry → Type 0
FreedCellsAreZeros left_since start h = HaveFreed (IsZerosSince left_since) start h

-- in a directory and its disk, a freed cell is free, and all zeros since its destruction
pub record IsFreeSince {D : Type 0} (disks : Disk.Ghosts D) (disk : D) (slots : List CellState) (freed : FreedCell) : Type 0 where
  pub free : cell_state slots freed.cell ≡ Free
  pub past : freed.since ≤ disks.moment disk
  pub zeros : IsZerosSince (disks.left_since disk) freed
