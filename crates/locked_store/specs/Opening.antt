-- What an opening of a shared store found, or why there was none.
use Rattle.std.specs.Prelude.{◌≡◌, ◌≤◌, ◌⊎◌, ℕ, List}
use Rattle.disk_face.specs.declared.Disk as disk
use Rattle.key_cells.specs.{declared.reading.OpenFault.OpenFault, declared.reading.OpenFault.TheVariants.Memory, Prelude.IsOpened, Prelude.IsOpenedFile, Prelude.IsOpeningRefused}
use Rattle.store_model.specs.declared.limits.Limits.{Limits}
use Rattle.store_core.specs.{Prelude.FindsKeysOf, Prelude.IsUnopened, declared.opening.StoreFault.StoreFault, declared.opening.StoreFault.TheVariants.File, declared.opening.StoreFault.TheVariants.RangeFull}
use Rattle.locked_store.specs.Worlds.{World}

module _ {D A C : Type 0} (w : World D A C) where
  -- the keys of each start are those of an image
  abbrev pub FindsKeysIn : List ℕ → Type 0
  FindsKeysIn image = FindsKeysOf w.disk w.devices w.rules w.opened image

  -- the store was opened on this disk
  abbrev pub IsOpenedOn : D → Type 0
  IsOpenedOn disk = IsOpened w.disk disk w.opened.file.value.cells.disk w.opened.file.value.cells.states

-- the opening of a file was refused; or it was done, and there was no memory for the lock
abbrev pub IsFileNotOpened : {D : Type 0} → disk.Ghosts D → (old new : D) → OpenFault → Type 0
IsFileNotOpened disks old new fault = IsOpeningRefused disks old new fault
    ⊎ ((fault ≡ Memory) × IsOpenedFile disks old new × (disks.faults old ≤ disks.faults new))

-- or a range of it is full
abbrev pub IsNotOpened : {D : Type 0} → disk.Ghosts D → Limits → (old new : D) → StoreFault → Type 0
IsNotOpened disks limits old new (File fault) = IsFileNotOpened disks old new fault
IsNotOpened disks limits old new (RangeFull range) = IsUnopened disks limits old new (RangeFull range)
