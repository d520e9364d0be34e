-- What a turn that destroys a key decides where it isn't gone for sure.
use Rattle.disk_face.specs.declared.Disk as Disk
use Rattle.driver_dispatch.specs.declared.devices.Devices as Devices
use Rattle.admission.specs.declared.rules.Admission as Admission
use Rattle.std.specs.Prelude.{ℕ}
use Rattle.store_core.specs.{declared.store.Store.Store, declared.destroying.NotDestroyed.NotDestroyed, Represents.Destroys, Uses.IsUndestroyed, Uses.mark_undestroyed}

module _ {D A C : Type 0} (disks : Disk.Ghosts D) (elements : Devices.Ghosts A) (admits : Admission.Ghosts C) (old new : Store D A C) where
  -- a ranked turn that was to destroy the key of an identifier, and why it didn't for sure
  abbrev pub DestroysUnsure : (id : ℕ) → NotDestroyed → Type 0
  DestroysUnsure id why = Destroys disks elements admits old new id (mark_undestroyed why) (IsUndestroyed id why)
