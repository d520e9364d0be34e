-- What holds of a store between the calls of its only user.
use Rattle.std.specs.Prelude.{◌≡◌, ◌≤◌, ◌==◌, ℕ, nat_lt, count_by, List, [], ◌∷◌, replicate}
use Rattle.key_slots.specs.Holdings.{Pairs}
use Rattle.secret_bytes.specs.Buffer.{IsClear}
use Rattle.store_core.specs.{declared.store.Store.Store, Prelude.Opening, Prelude.StandsFor}
use Rattle.store_model.specs.Prelude.{Service, Entry}
use Rattle.disk_face.specs.declared.Disk as Disk
use Rattle.driver_dispatch.specs.declared.devices.Devices as Devices
use Rattle.admission.specs.declared.rules.Admission as Admission
use Rattle.key_cells.specs.Prelude.{store_size}

-- nothing is out of the store
abbrev pub none_out : List Pairs
none_out = replicate 16 []

-- the first of sixteen callers has these pairs out, and the others have none
abbrev pub first_has : Pairs → List Pairs
first_has own = own ∷ replicate 15 []

-- the first two have these
abbrev pub first_two_have : Pairs → Pairs → List Pairs
first_two_have own other = own ∷ other ∷ replicate 14 []

-- so many of these pairs are leases at most, and none is a filling
pub record AreLeases (own : Pairs) (most : ℕ) : Type 0 where
  pub leases : count_by (λ p. nat_lt 0 p.1) own ≤ most
  pub fillings : count_by (λ p. p.1 == 0) own ≡ 0

-- A store stands for some history, with these pairs out; its disk has its full length, and its buffer is clear.
pub record StandsForSomeHistory {D A C : Type 0} (disks : Disk.Ghosts D) (elements : Devices.Ghosts A) (admits : Admission.Ghosts C)
    (store : Store D A C) (all : List Pairs) : Type 0 where
  pub start : Service
  pub opening : Opening
  pub h : List Entry
  pub stands : StandsFor disks elements admits store start opening h all
  pub sized : disks.size store.file.cells.disk ≡ store_size
  pub clear : IsClear store.buffer

module _ {D A C : Type 0} (disks : Disk.Ghosts D) (elements : Devices.Ghosts A) (admits : Admission.Ghosts C) where
  abbrev KeepsHere : Store D A C → List Pairs → Type 0
  KeepsHere = StandsForSomeHistory disks elements admits

  -- it does so with some leases of the first caller out, so many at most, and perhaps with this one further
  abbrev pub KeepsLeases : Store D A C → (most : ℕ) → Type 0
  KeepsLeases store most = (own : Pairs) × AreLeases own most × KeepsHere store (first_has own)

  -- a turn leaves what is out
  abbrev pub StaysOut : (old new : Store D A C) (most : ℕ) → Type 0
  StaysOut old new most = (own : Pairs) → AreLeases own most → KeepsHere old (first_has own) → KeepsHere new (first_has own)

  -- or this further lease is out after it
  abbrev pub GivesLease : (old new : Store D A C) (most : ℕ) → ℕ × ℕ → Type 0
  GivesLease old new most p = (own : Pairs) → AreLeases own most → KeepsHere old (first_has own) → KeepsHere new (first_has (p ∷ own))
