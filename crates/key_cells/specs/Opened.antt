-- What an opening gives, and what it leaves where it is refused.
use Rattle.disk_face.specs.declared.Disk as Disk
use Rattle.std.specs.Prelude.{◌≡◌, ◌≤◌, ◌⊎◌, ℕ, List, [], length, replicate, Some, IfSome}
use Rattle.psa_status.specs.Causes.{Rose}
use Rattle.disk_face.specs.{Disk.NoNewImage, Disk.LeavesWhatIsRead, Disk.StillTells, Moments.Within}
use Rattle.key_cells.specs.{declared.state.CellState.CellState, declared.reading.OpenFault.OpenFault, Layout.blank_store, Layout.cell_count, Contents.StandsForContents, Image.HasNoOpenCell, Image.HoldsSameKeys, Image.HasZerosWhereClosed, Image.IsOpenable, Image.IsStoreFile, Image.IsWhole, Image.Opens, Image.SparesStore, Causes.IsOpenFaultOf, Causes.IsDisk, Causes.IsRefusal}
use Rattle.key_cells.specs.Opening.{found_in, IsFoundIn, HasOneEach, IsNumbered, IsNamed, WithinSpares}

-- calls that wrote nothing
pub record Calm {D : Type 0} (disks : Disk.Ghosts D) (old new : D) : Type 0 where
  pub same : disks.contents new ≡ disks.contents old
  pub crash : NoNewImage (disks.may_leave old) (disks.may_leave new)
  pub within : Within (disks.moment old) (disks.moment new) (disks.left_since old) (disks.left_since new) (disks.may_leave old)
  pub later : disks.faults old ≤ disks.faults new

-- Since some moment of the calls, when a disk of these bytes had nothing pending, each image has P.
pub record HoldsSinceSync {D : Type 0} (disks : Disk.Ghosts D) (old new : D) (bytes : List ℕ) (P : List ℕ → Type 0) : Type 0 where
  pub synced : D
  pub told : disks.contents synced ≡ Some bytes
  pub only : (image : List ℕ) → disks.may_leave synced image → image ≡ bytes
  pub began : disks.moment old ≤ disks.moment synced
  pub later : disks.moment synced ≤ disks.moment new
  pub each : (image : List ℕ) → disks.left_since new (disks.moment synced) image → P image

-- since its first sync each image has what an opening spares of a store
abbrev pub SparesSinceSync : {D : Type 0} → Disk.Ghosts D → D → D → List ℕ → Type 0
SparesSinceSync disks old new image = HoldsSinceSync disks old new image (SparesStore image)

-- or can be opened, and has its keys
abbrev pub KeepsKeysSinceSync : {D : Type 0} → Disk.Ghosts D → D → D → List ℕ → Type 0
KeepsKeysSinceSync disks old new image = HoldsSinceSync disks old new image (HoldsSameKeys image)

-- since its zeros were made sure of, no image of a new file has an open cell
abbrev pub IsBlankSinceSync : {D : Type 0} → Disk.Ghosts D → D → D → Type 0
IsBlankSinceSync disks old new = HoldsSinceSync disks old new blank_store HasNoOpenCell

-- What an opening wrote that was refused: nothing; or it cleared cells of a store without a damaged one, and made it grow;
-- or it lengthened a new file by zeros,
-- which are what is read, or were made sure of.
abbrev pub WritesItsOwn : {D : Type 0} → Disk.Ghosts D → D → D → List ℕ → Type 0
WritesItsOwn disks old new image =
    Calm disks old new
    ⊎ (Opens image × SparesSinceSync disks old new image)
    ⊎ ((image ≡ []) × (IfSome (disks.contents new) (λ read. read ≡ replicate (length read) 0) ⊎ IsBlankSinceSync disks old new))

-- A file was opened. It was a store without a damaged cell, or a new one. Now each image is whole. Where each closed cell was
-- all zeros, each image since its first sync can be opened and has the same keys. Of a store that was there, every image
-- within the opening has each open cell byte for byte, or might have been left before the opening, and since its first sync
-- each has them; of a new file no image has an open cell since its zeros were made sure of.
pub record IsOpenedFile {D : Type 0} (disks : Disk.Ghosts D) (old new : D) : Type 0 where
  pub tells : StillTells (disks.contents old) (disks.contents new)
  pub openable : IfSome (disks.contents old) IsOpenable
  pub whole : IfSome (disks.contents old) (λ image. (other : List ℕ) → disks.may_leave new other → IsWhole image other)
  pub spares : IfSome (disks.contents old) (λ image. IsStoreFile image → WithinSpares (disks.moment old) (disks.moment new) (disks.left_since old) (disks.left_since new) (disks.may_leave old) image)
  pub since_sync : IfSome (disks.contents old) (λ image. IsStoreFile image → SparesSinceSync disks old new image)
  pub blank : IfSome (disks.contents old) (λ image. image ≡ [] → IsBlankSinceSync disks old new)
  pub keys : IfSome (disks.contents old) (λ image. Opens image → HasZerosWhereClosed image → KeepsKeysSinceSync disks old new image)

-- It gave a directory, of exactly the keys of the disk's image, and nothing is in doubt.
pub record IsOpened {D : Type 0} (disks : Disk.Ghosts D) (old new : D) (states : List CellState) : Type 0 where
  pub file : IsOpenedFile disks old new
  pub sized : length states ≡ cell_count
  pub one : HasOneEach cell_count states
  pub numbered : IsNumbered cell_count states
  pub named : IsNamed cell_count states
  pub found : IfSome (disks.contents old) (λ image. IsFoundIn image states)
  pub stands : IfSome (disks.contents old) (λ image. StandsForContents disks new states (found_in image))

-- An opening was refused: for what the image has, and then nothing was written and nothing is pending, or for a fault
-- of the disk or of memory. What was written is the opening's own.
pub record IsOpeningRefused {D : Type 0} (disks : Disk.Ghosts D) (old new : D) (fault : OpenFault) : Type 0 where
  pub caused : IfSome (disks.contents old) (λ image. IsOpenFaultOf fault image)
  pub tells : StillTells (disks.contents old) (disks.contents new)
  pub later : disks.faults old ≤ disks.faults new
  pub rose : IsDisk fault → Rose (disks.faults old) (disks.faults new)
  pub calm : IsRefusal fault → Calm disks old new
  pub durable : IsRefusal fault → LeavesWhatIsRead (disks.contents old) (disks.may_leave new)
  pub spares : IfSome (disks.contents old) (λ image. IsStoreFile image → WithinSpares (disks.moment old) (disks.moment new) (disks.left_since old) (disks.left_since new) (disks.may_leave old) image)
  pub left : IfSome (disks.contents old) (λ image. IsStoreFile image → NoNewImage (disks.may_leave old) (disks.may_leave new) ⊎ ((other : List ℕ) → disks.may_leave new other → SparesStore image other))
  pub wrote : IfSome (disks.contents old) (λ image. WritesItsOwn disks old new image)
  pub keys : IfSome (disks.contents old) (λ image. Opens image → HasZerosWhereClosed image → Calm disks old new ⊎ KeepsKeysSinceSync disks old new image)
  pub spares_read : IfSome (disks.contents old) (λ image. IsStoreFile image → IfSome (disks.contents new) (SparesStore image))
  pub blank_read : IfSome (disks.contents old) (λ image. image ≡ [] → IfSome (disks.contents new) HasNoOpenCell)
