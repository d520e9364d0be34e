-- How many calls of a history met the failure of a device, and how many reply lines say so.
use Rattle.std.specs.Prelude.{◌≡◌, ◌≤◌, ◌<◌, ◌+◌, ◌-◌, ◌^◌, ℕ, Bool, true, false, count_by, List, All, map, Option, Some}
use Rattle.psa_status.specs.{declared.Status.Status, declared.Status.TheVariants.StorageFailure, declared.Status.TheVariants.HardwareFailure, declared.Status.TheVariants.DataCorrupt}
use Rattle.store_model.specs.Prelude.{Plain, FaultCounts, IsCaused, last_counts, Entry}
use Rattle.store_core.specs.Prelude.{Opening, AreRising}
use Rattle.script_lang.specs.Prelude.{ReplyLine}
use Rattle.callers.specs.Failures.{failure_marked}
use Rattle.session_host.specs.Places.{failure_of, failures_to}

-- no call of a history met a failure
abbrev pub ArePlain : List Entry → Type 0
ArePlain h = All (λ e. e.mark ≡ Plain) h

-- whether a failure is that of a status: the disk's, a driver's, or of bytes that were no record
abbrev pub is_failure : Status → Option Status → Bool
is_failure StorageFailure (Some StorageFailure) = true
is_failure HardwareFailure (Some HardwareFailure) = true
is_failure DataCorrupt (Some DataCorrupt) = true
is_failure _ _ = false

-- the failures that the marks of a history's calls are of
abbrev pub failures_marked : List Entry → List (Option Status)
failures_marked h = map (λ e. failure_marked e.mark) h

-- Of some failures no more are the disk's than its count of faults rose by, and no more the devices' than theirs rose by, where that
-- count hasn't come to its type's end. None is of corrupt bytes where the disk tells its bytes.
pub record AreBounded (tells : Bool) (before after : FaultCounts) (failures : List (Option Status)) : Type 0 where
  pub storage : after.faults < 2 ^ 64 - 1 → before.faults + count_by (is_failure StorageFailure) failures ≤ after.faults
  pub hardware : after.device_faults < 2 ^ 64 - 1 → before.device_faults + count_by (is_failure HardwareFailure) failures ≤ after.device_faults
  pub corrupt : tells ≡ true → count_by (is_failure DataCorrupt) failures ≡ 0

-- so it is of every history whose marks have causes, and along which no count falls
abbrev pub MarksAreBounded : Type 0
MarksAreBounded =
    (tells : Bool) (before : Opening) (h : List Entry) → IsCaused tells before.counts h → AreRising tells before h →
    AreBounded tells before.counts (last_counts before.counts h) (failures_marked h)

-- so it is of lines that tell of the failures that the marks of sessions 1 to n are of, where it is of the history
abbrev pub LinesAreBounded : Type 0
LinesAreBounded =
    (tells : Bool) (before after : FaultCounts) (h : List Entry) (n : ℕ) (replies : List ReplyLine) → AreBounded tells before after (failures_marked h) →
    map failure_of replies ≡ failures_to n h → AreBounded tells before after (map failure_of replies)
