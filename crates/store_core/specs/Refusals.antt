-- What a turn leaves alone that is refused by a row, or that looks for a key: disk, directory and devices.
use Rattle.disk_face.specs.declared.Disk as Disk
use Rattle.std.specs.Prelude.{◌≡◌}
use Rattle.key_cells.specs.Prelude.{Calm}
use Rattle.store_core.specs.declared.store.Store.{Store}

-- a turn called neither the disk nor a device, and closed no cell
pub record CallsNothing {D A C : Type 0} (old new : Store D A C) : Type 0 where
  pub file : new.file ≡ old.file
  pub devices : new.devices ≡ old.devices

-- a turn read the disk at most: it wrote nothing to it, closed no cell and called no device
pub record WritesNothing {D A C : Type 0} (disks : Disk.Ghosts D) (old new : Store D A C) : Type 0 where
  pub disk : Calm disks old.file.cells.disk new.file.cells.disk
  pub directory : new.file.cells.states ≡ old.file.cells.states
  pub devices : new.devices ≡ old.devices
