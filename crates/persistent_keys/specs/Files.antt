-- What a store file stands for: keys by their identifiers, and keys in doubt.
use Rattle.disk_face.specs.declared.Disk as Disk
use Rattle.std.specs.Prelude.{◌≡◌, ◌⊎◌, ℕ, ◌<◌, ◌==◌, Bool, true, false, cond, List, [], ◌∷◌, length, Option, Some, ⊤}
use Rattle.disk_face.specs.Moments.{Within}
use Rattle.key_attributes.specs.declared.Attributes.{Attributes}
use Rattle.key_cells.specs.{declared.state.CellState.CellState, declared.state.CellState.TheVariants.Free, declared.state.CellState.TheVariants.Open, declared.state.CellState.TheVariants.Shut, declared.state.CellState.TheVariants.Unsure}
use Rattle.key_cells.specs.Prelude.{body, Content, Absent, Present, Doubtful, HasZeros, cell_state, content_at, has_id, creation_of_state, HoldsKey, HoldsId, Opens, HasKey, cell_count}
use Rattle.key_cells.specs.Contents as cells
use Rattle.persistent_keys.specs.{declared.file.MakeFault.MakeFault, declared.file.MakeFault.TheVariants.Full, declared.file.MakeFault.TheVariants.Disk}

-- a key of the file
pub record Stored : Type 0 where
  pub creation : ℕ
  pub attributes : Attributes
  pub bytes : List ℕ

abbrev pub stored : ℕ → Attributes → List ℕ → Stored
stored creation attributes bytes = record { creation = creation; attributes = attributes; bytes = bytes }

-- the file's keys by their identifiers
abbrev pub Keys : Type 0
Keys = ℕ → Option Stored

-- the keys in doubt
abbrev pub Doubt : Type 0
Doubt = List (Attributes × List ℕ)

abbrev pub IsDoubted : Doubt → Attributes → List ℕ → Type 0
IsDoubted [] a bytes = ⊥
IsDoubted (key ∷ doubt) a bytes = ((key.0 ≡ a) × (key.1 ≡ bytes)) ⊎ IsDoubted doubt a bytes

-- an image can be opened, and its keys are these, together with some of those in doubt
pub record FitsKeys (keys : Keys) (doubt : Doubt) (image : List ℕ) : Type 0 where
  pub opens : Opens image
  pub there : (id : ℕ) (key : Stored) → keys id ≡ Some key → HasKey key.attributes key.bytes image
  pub only : (a : Attributes) (bytes : List ℕ) → HasKey a bytes image → ((creation : ℕ) × (keys a.id.0 ≡ Some (stored creation a bytes))) ⊎ IsDoubted doubt a bytes

-- a body has a key that is in doubt
abbrev pub IsDoubtedIn : Doubt → List ℕ → Type 0
IsDoubtedIn doubt body = (a : Attributes) × (bytes : List ℕ) × HoldsKey a bytes body × IsDoubted doubt a bytes

-- what the directory and the contents say of a cell
abbrev pub TellsCell : Keys → Doubt → CellState → Content → Type 0
TellsCell keys doubt Free Absent = ⊤
TellsCell keys doubt Free (Present body) = ⊥
TellsCell keys doubt Free (Doubtful body) = IsDoubtedIn doubt body
TellsCell keys doubt (Open id creation) Absent = ⊥
TellsCell keys doubt (Open id creation) (Present body) = (a : Attributes) × (bytes : List ℕ) × HoldsKey a bytes body × (a.id.0 ≡ id) × (keys id ≡ Some (stored creation a bytes))
TellsCell keys doubt (Open id creation) (Doubtful body) = ⊥
TellsCell keys doubt Shut Absent = ⊤
TellsCell keys doubt Shut (Present body) = ⊥
TellsCell keys doubt Shut (Doubtful body) = IsDoubtedIn doubt body
TellsCell keys doubt Unsure Absent = ⊤
TellsCell keys doubt Unsure (Present body) = ⊥
TellsCell keys doubt Unsure (Doubtful body) = IsDoubtedIn doubt body

-- a cell has a key of this identifier, for sure or in doubt
abbrev pub IsOf : ℕ → Content → Type 0
IsOf id Absent = ⊥
IsOf id (Present body) = HoldsId id body
IsOf id (Doubtful body) = HoldsId id body

-- each key is in exactly one open cell, which has its record; what else may be there is in doubt; no two cells have
-- the same identifier
pub record IsFiled (keys : Keys) (doubt : Doubt) (states : List CellState) (contents : List Content) : Type 0 where
  pub sized : length states ≡ cell_count
  pub each : (cell : ℕ) → cell < cell_count → TellsCell keys doubt (cell_state states cell) (content_at contents cell)
  pub found : (id : ℕ) (key : Stored) → keys id ≡ Some key → (cell : ℕ) × (cell < cell_count) × (has_id id (cell_state states cell) ≡ true)
  pub apart : (id cell other : ℕ) → cell < cell_count → other < cell_count → IsOf id (content_at contents cell) → IsOf id (content_at contents other) → cell ≡ other

-- a disk whose bytes are told, and a directory, stand for keys
pub record StandsForKeys {D : Type 0} (disks : Disk.Ghosts D) (disk : D) (states : List CellState) (keys : Keys) (doubt : Doubt) : Type 0 where
  pub contents : List Content
  pub stands : cells.StandsForContents disks disk states contents
  pub filed : IsFiled keys doubt states contents

abbrev pub FitsEitherKeys : Keys → Doubt → Keys → Doubt → List ℕ → Type 0
FitsEitherKeys keys doubt keys' doubt' image = FitsKeys keys doubt image ⊎ FitsKeys keys' doubt' image

-- A call leads from keys to keys, and a crash within it leaves either. A cell that is free before the call and after it
-- is all zeros in every image that a crash within it leaves.
pub record Leads {D : Type 0} (disks : Disk.Ghosts D) (old new : D) (states states' : List CellState) (keys : Keys) (doubt : Doubt) (keys' : Keys) (doubt' : Doubt) : Type 0 where
  pub stands : StandsForKeys disks new states' keys' doubt'
  pub within : Within (disks.moment old) (disks.moment new) (disks.left_since old) (disks.left_since new) (FitsEitherKeys keys doubt keys' doubt')
  pub zeros : (cell : ℕ) → cell < cell_count → cell_state states cell ≡ Free → cell_state states' cell ≡ Free → Within (disks.moment old) (disks.moment new) (disks.left_since old) (disks.left_since new) (HasZeros cell)

-- keys that differ at one identifier
abbrev pub IsPut : Keys → Keys → ℕ → Option Stored → Type 0
IsPut keys keys' id key = (other : ℕ) → keys' other ≡ cond (other == id) key (keys other)

-- what a destruction that failed leaves in doubt: its key alone where the cells in doubt before had been closed
abbrev pub doubt_undestroyed : Bool → Attributes → List ℕ → Doubt → Doubt
doubt_undestroyed true a bytes doubt = (a, bytes) ∷ []
doubt_undestroyed false a bytes doubt = (a, bytes) ∷ doubt

-- what a creation that failed leaves in doubt
abbrev pub doubt_unmade : MakeFault → Attributes → List ℕ → Doubt → Doubt
doubt_unmade Full a bytes doubt = doubt
doubt_unmade (Disk true) a bytes doubt = (a, bytes) ∷ []
doubt_unmade (Disk false) a bytes doubt = doubt

-- The keys that an opening found: each stands in the cell that the directory has for it, under its number.
pub record AreFound (image : List ℕ) (states : List CellState) (keys : Keys) : Type 0 where
  pub there : (id : ℕ) (key : Stored) → keys id ≡ Some key →
      (cell : ℕ) × (cell < cell_count) × (has_id id (cell_state states cell) ≡ true) × HoldsKey key.attributes key.bytes (body cell image) × (key.creation ≡ creation_of_state (cell_state states cell))
  pub all : (id cell : ℕ) → cell < cell_count → has_id id (cell_state states cell) ≡ true → (key : Stored) × (keys id ≡ Some key)
