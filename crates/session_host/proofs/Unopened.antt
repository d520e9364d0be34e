-- A store that wasn't opened for the lines of a script.
use Rattle.session_host.proofs.Common.{IsOwnersRange, List, Names, ScriptLine, arith, inl, inr, leb_tells, limits_by, subst, unanswered_by, ℕ, ◌<◌, ◌≡◌}
use Rattle.policy_rules.specs.declared.narrowing.Label.{Label}
use Rattle.store_model.specs.declared.limits.Limits.{Limits}
use Rattle.store_core.specs.{Prelude.IsUnopened, declared.opening.StoreFault.StoreFault, declared.opening.StoreFault.TheVariants.File, declared.opening.StoreFault.TheVariants.RangeFull}
use Rattle.store_core.proofs.Ranges.{few_past}
use Rattle.locked_store.specs.Prelude.{IsNotOpened}
use Rattle.owner_space.specs.Owners.{owner_count}
use Rattle.session_host.specs.Runs.{IsUnanswered}
use Rattle.disk_face.specs.declared.Disk as Disk
use Rattle.driver_dispatch.specs.declared.devices.Devices as Devices
use Rattle.admission.specs.declared.rules.Admission as Admission

module _ {D : Type 0} (disks : Disk.Ghosts D) (limits : Limits) (old new : D) where
  -- a range that is full is one of the sixteen that keys of a file have
  range_within : (range : ℕ) → IsUnopened disks limits old new (RangeFull range) → range < owner_count
  range_within range u = elim (leb_tells owner_count range) [
    | inl past ↦ absurd (let few = few_past u.0 range u.1.sized u.1.named past.1 in let many = u.2.1.here in omega (arith, few, many))
    | inr within ↦ (let w = within.1 in omega arith)
  ]

  pub owners_range : (fault : StoreFault) → IsNotOpened disks limits old new fault → IsOwnersRange fault
  owners_range (File fault) u = tt
  owners_range (RangeFull range) u = range_within range u

-- why there are no replies
pub unopened : {D A C : Type 0} (disks : Disk.Ghosts D) (elements : Devices.Ghosts A) (admits : Admission.Ghosts C) (names : Names) (limits : Limits) (old new : D) (devices devices_after : A) (named : List Label) (seed : List ℕ)
    (lines : List ScriptLine) (fault : StoreFault) → limits ≡ limits_by names → IsNotOpened disks limits old new fault → devices_after ≡ devices →
    IsUnanswered disks elements admits old devices named seed names lines (unanswered_by fault) new devices_after
unopened disks elements admits names limits old new devices devices_after named seed lines (File fault) same u returned = (u, returned)
unopened disks elements admits names limits old new devices devices_after named seed lines (RangeFull range) same u returned =
    (subst (λ l. IsUnopened disks l old new (RangeFull range)) same u, range_within disks limits old new range u, returned)
