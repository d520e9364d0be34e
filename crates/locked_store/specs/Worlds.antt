-- The store under the lock, as it was opened.
use Rattle.atomic_table.specs.Seated.{TableId}
use Rattle.disk_face.specs.declared.Disk as disk
use Rattle.driver_dispatch.specs.declared.devices.Devices as devices
use Rattle.admission.specs.declared.rules.Admission as admission
use Rattle.store_core.specs.declared.store.Opened.{Opened}

-- what disk, devices and rules tell, the lock, and what the opening saw
pub record World (D A C : Type 0) : Type 1 where
  pub disk : disk.Ghosts D
  pub devices : devices.Ghosts A
  pub rules : admission.Ghosts C
  pub lock : TableId
  pub opened : Opened D A C

abbrev pub world_of : {D A C : Type 0} → disk.Ghosts D → devices.Ghosts A → admission.Ghosts C → TableId → Opened D A C → World D A C
world_of d a c lock opened = record { disk = d; devices = a; rules = c; lock = lock; opened = opened }
