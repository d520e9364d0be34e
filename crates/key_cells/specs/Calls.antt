-- What a call makes of whatever the cells stand for.
use Rattle.disk_face.specs.declared.Disk as Disk
use Rattle.std.specs.Prelude.{◌≡◌, ℕ, true, List, length, set}
use Rattle.disk_face.specs.{Disk.Torn, Moments.Within, Moments.written}
use Rattle.key_attributes.specs.declared.Attributes.{Attributes}
use Rattle.key_cells.specs.{declared.state.CellState.CellState, declared.cells.Cells.Cells, Contents.Content, Contents.Absent, Contents.Present, Contents.Doubtful, Contents.Frame, Contents.Sound, Contents.SoundBy, Contents.StandsForContents, Contents.Moves, Contents.MovesEither, Contents.CreationFailed, Contents.settled, Contents.content_at, Contents.cell_state, Contents.has_id, Layout.cell_count}
use Rattle.key_cells.specs.{Opening.Clearing, Opening.ClearsOn, Opening.Spares, Body.HoldsKey, Body.HoldsId}

module _ {D : Type 0} (disks : Disk.Ghosts D) where
  -- the disk and the directory of the cells stand for these contents
  abbrev pub StandFor : Cells D → List Content → Type 0
  StandFor cells contents = StandsForContents disks cells.disk cells.states contents

  -- it is the key of a cell
  abbrev pub IsKeyOfCell : Cells D → ℕ → Attributes → List ℕ → Type 0
  IsKeyOfCell cells cell a key = (contents : List Content) (body : List ℕ) → content_at contents cell ≡ Present body → StandFor cells contents → HoldsKey a key body

  -- a cell has no body of a key whose identifier the directory has for it
  abbrev pub IsCorrupt : Cells D → ℕ → Type 0
  IsCorrupt cells cell = (contents : List Content) (body : List ℕ) (id : ℕ) → content_at contents cell ≡ Present body →
      StandFor cells contents → has_id id (cell_state cells.states cell) ≡ true → HoldsId id body → ⊥

  -- what a crash leaves of a write of these bytes shows what the directory says
  abbrev pub TearsSafely : Cells D → List Content → ℕ → List ℕ → Type 0
  TearsSafely cells contents place bytes =
      (before image : List ℕ) → Sound cells.states contents before → Torn place (length bytes) before image → Sound cells.states contents image

  -- none of the cells that are left over from a crash was made zeros so far
  abbrev pub BeginsClearing : Cells D → Frame → List Content → Type 0
  BeginsClearing cells frame contents = Clearing disks cells.disk frame cells.states cells.states contents

  module _ (old new : Cells D) where
    -- the content of one cell changes
    abbrev pub ChangesCell : ℕ → Content → Content → Type 0
    ChangesCell cell before after = (contents : List Content) → content_at contents cell ≡ before → StandFor old contents →
        Moves disks old.disk new.disk old.states new.states contents (set contents cell after)

    -- a cell has a new key, and nothing is in doubt
    abbrev pub Creates : ℕ → List ℕ → Type 0
    Creates cell bytes = (contents : List Content) → StandFor old contents →
        Moves disks old.disk new.disk old.states new.states contents (set (settled contents) cell (Present bytes))

    abbrev pub FailsToCreate : List ℕ → Type 0
    FailsToCreate bytes = (contents : List Content) → StandFor old contents →
        CreationFailed disks old.disk new.disk old.states new.states contents bytes

    -- the key of a cell is gone, and nothing is in doubt
    abbrev pub Destroys : ℕ → Type 0
    Destroys cell = (contents : List Content) (bytes : List ℕ) → content_at contents cell ≡ Present bytes → StandFor old contents →
        Moves disks old.disk new.disk old.states new.states contents (set (settled contents) cell Absent)

    -- it is in doubt, alone or with those that were
    abbrev pub FailsToDestroy : ℕ → Type 0
    FailsToDestroy cell = (contents : List Content) (bytes : List ℕ) → content_at contents cell ≡ Present bytes → StandFor old contents →
        MovesEither disks old.disk new.disk old.states new.states contents (set contents cell (Doubtful bytes)) (set (settled contents) cell (Doubtful bytes))

    -- it is in doubt, with no call of the disk
    abbrev pub PutsInDoubt : ℕ → Type 0
    PutsInDoubt cell = (contents : List Content) (bytes : List ℕ) → content_at contents cell ≡ Present bytes → StandFor old contents →
        StandFor new (set contents cell (Doubtful bytes))

    -- a step of making those cells zeros that are left over
    abbrev pub GoesOnClearing : Type 0
    GoesOnClearing = (frame : Frame) (first : List CellState) (contents : List Content) → Clearing disks old.disk frame first old.states contents →
        ClearsOn disks old.disk new.disk frame first new.states contents

    -- every image within calls has each open cell byte for byte
    abbrev pub SparesWithin : Frame → List CellState → List Content → Type 0
    SparesWithin frame first contents =
        Within (disks.moment old.disk) (disks.moment new.disk) (disks.left_since old.disk) (disks.left_since new.disk) (SoundBy frame Spares first contents)

    -- a write was made sure of, or failed: it leads on where what is torn of it shows what the directory says
    abbrev pub Writes : ℕ → List ℕ → List CellState → Type 0
    Writes place bytes states = (from to : List Content) → length to ≡ cell_count → StandFor old from → TearsSafely old from place bytes →
        ((read : List ℕ) → Sound old.states from read → Sound states to (written read place bytes)) →
        Moves disks old.disk new.disk old.states new.states from to

    abbrev pub FailsToWrite : ℕ → List ℕ → Type 0
    FailsToWrite place bytes = (contents : List Content) → StandFor old contents → TearsSafely old contents place bytes →
        Moves disks old.disk new.disk old.states new.states contents contents
