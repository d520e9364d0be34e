-- What a call makes of whatever keys a file stands for.
use Rattle.disk_face.specs.declared.Disk as Disk
use Rattle.std.specs.Prelude.{◌≡◌, ℕ, Bool, List, [], Option, None, Some}
use Rattle.key_attributes.specs.declared.Attributes.{Attributes}
use Rattle.persistent_keys.specs.{declared.file.KeyFile.KeyFile, declared.file.MakeFault.MakeFault, Files.Stored, Files.Keys, Files.Doubt, Files.StandsForKeys, Files.Leads, Files.IsPut, Files.doubt_unmade, Files.doubt_undestroyed}

module _ {D : Type 0} (disks : Disk.Ghosts D) where
  -- the file stands for keys, and for those in doubt
  abbrev pub StandsForThese : KeyFile D → Keys → Doubt → Type 0
  StandsForThese file keys doubt = StandsForKeys disks file.cells.disk file.cells.states keys doubt

  -- the file has this key
  abbrev pub HasStored : KeyFile D → ℕ → Stored → Type 0
  HasStored file id key = (keys : Keys) (doubt : Doubt) → StandsForThese file keys doubt → keys id ≡ Some key

  module _ (old new : KeyFile D) where
    -- a call that changes no keys
    abbrev pub KeepsFile : Type 0
    KeepsFile = (keys : Keys) (doubt : Doubt) → StandsForThese old keys doubt →
        Leads disks old.cells.disk new.cells.disk old.cells.states new.cells.states keys doubt keys doubt

    -- an identifier has another key or none, and nothing is in doubt
    abbrev pub PutsInFile : ℕ → Option Stored → Type 0
    PutsInFile id key = (keys keys' : Keys) (doubt : Doubt) → StandsForThese old keys doubt → IsPut keys keys' id key →
        Leads disks old.cells.disk new.cells.disk old.cells.states new.cells.states keys doubt keys' []

    -- a key wasn't made
    abbrev pub LeavesUnmade : MakeFault → Attributes → List ℕ → Type 0
    LeavesUnmade fault a bytes = (keys : Keys) (doubt : Doubt) → StandsForThese old keys doubt →
        Leads disks old.cells.disk new.cells.disk old.cells.states new.cells.states keys doubt keys (doubt_unmade fault a bytes doubt)

    -- the key of an identifier is gone or in doubt
    abbrev pub LeavesUndestroyed : ℕ → Bool → Type 0
    LeavesUndestroyed id closed_first = (keys keys' : Keys) (doubt : Doubt) (key : Stored) → StandsForThese old keys doubt → keys id ≡ Some key → IsPut keys keys' id None →
        Leads disks old.cells.disk new.cells.disk old.cells.states new.cells.states keys doubt keys' (doubt_undestroyed closed_first key.attributes key.bytes doubt)
