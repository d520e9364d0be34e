-- What never falls: how often the disk and the devices have failed, and the disk's moments.
use Rattle.std.specs.Prelude.{◌≡◌, ◌≤◌, ℕ, Bool, true, List, [], ◌∷◌}
use Rattle.store_model.specs.Prelude.{Entry}
use Rattle.store_core.specs.{declared.store.Store.Store, Represents.Opening}

-- calls of a store, after which neither the disk nor the devices have failed less often
pub record NoFewerFaults {D A C : Type 0} (faults : D → ℕ) (device_faults : A → ℕ) (old new : Store D A C) : Type 0 where
  pub disk : faults old.file.cells.disk ≤ faults new.file.cells.disk
  pub devices : device_faults old.devices ≤ device_faults new.devices

-- what an entry says of disk and devices, for the entry after it
abbrev pub opening_after : Entry → Opening
opening_after e = record { moment = e.done; counts = record { faults = e.faults; device_faults = e.device_faults } }

-- an entry that comes later: its counts are not below those before it, nor is its moment, where the disk tells its bytes
pub record IsLaterThan (tells : Bool) (before : Opening) (e : Entry) : Type 0 where
  pub faults : before.counts.faults ≤ e.faults
  pub device_faults : before.counts.device_faults ≤ e.device_faults
  pub done : tells ≡ true → before.moment ≤ e.done

-- each entry of a history comes later than the one before it, and the first than the opening
abbrev pub AreRising : (tells : Bool) → Opening → List Entry → Type 0
AreRising tells before [] = Unit {0}
AreRising tells before (e ∷ es) = IsLaterThan tells before e × AreRising tells (opening_after e) es
