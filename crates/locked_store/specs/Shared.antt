-- The world of a shared store.
use Rattle.atomic_table.specs.Seated.{TableId}
use Rattle.store_core.specs.declared.store.Opened.{Opened}
use Rattle.disk_face.specs.declared.Disk as disk
use Rattle.driver_dispatch.specs.declared.devices.Devices as devices
use Rattle.admission.specs.declared.rules.Admission as admission
use Rattle.locked_store.specs.{declared.held.SharedStore.SharedStore, Worlds.World, Worlds.world_of}

module _ {D A C : Type 0} {d : disk.Ghosts D} {a : devices.Ghosts A} {c : admission.Ghosts C} where
  unfoldable pub lock_of : SharedStore D A C d a c → TableId
  lock_of shared = shared.lock.table.shared.table_id

  unfoldable pub opened_of : SharedStore D A C d a c → Opened D A C
  opened_of shared = shared.lock.table.shared.key.value.value.store.opened

  abbrev pub world : SharedStore D A C d a c → World D A C
  world shared = world_of d a c (lock_of shared) (opened_of shared)
