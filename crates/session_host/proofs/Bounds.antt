-- Marks have causes, and so there are no more of them than failures.
use Rattle.session_host.proofs.Common.{All-cons, All-nil, AreBounded, ArePlain, AreRising, Bool, Corrupt, Entry, FaultCounts, FaultMark, Hardware, HasFault, IsCaused, List, Opening, Plain, Rose, Storage, [], ap, arith, cond, false, inl, inr, last_counts, leb_tells, min, opening_after, refl, subst, true, ℕ, ◌+◌, ◌-◌, ◌<◌, ◌^◌, ◌∷◌, ◌≡◌, ◌≤◌, DataCorrupt, failure_marked, failures_marked, HardwareFailure, is_failure, Status, StorageFailure, sum_by-cons}
use Rattle.std.proofs.Common.{count_by}

abbrev one : Bool → ℕ
one b = cond b 1 0

abbrev counts_of : Entry → FaultCounts
counts_of e = record { faults = e.faults; device_faults = e.device_faults }

-- the last counts are none below those before
last_faults : (tells : Bool) (before : Opening) (h : List Entry) → AreRising tells before h → before.counts.faults ≤ (last_counts before.counts h).faults
last_faults tells before [] rising = omega arith
last_faults tells before (e ∷ h) rising = let a = rising.0.faults in let b = last_faults tells (opening_after e) h rising.1 in omega arith

last_device_faults : (tells : Bool) (before : Opening) (h : List Entry) → AreRising tells before h → before.counts.device_faults ≤ (last_counts before.counts h).device_faults
last_device_faults tells before [] rising = omega arith
last_device_faults tells before (e ∷ h) rising = let a = rising.0.device_faults in let b = last_device_faults tells (opening_after e) h rising.1 in omega arith

rose_by_one : (before now : ℕ) → Rose before now → now < 2 ^ 64 - 1 → before + 1 ≤ now
rose_by_one before now rose below = grind arith

-- an entry more, marked or not
counted : (marked : Bool) (before here after more : ℕ) → before ≤ here → (marked ≡ true → Rose before here) → here ≤ after → after < 2 ^ 64 - 1 → here + more ≤ after →
    before + (cond marked 1 0 + more) ≤ after
counted true before here after more later rose reached below rest = let r = rose_by_one before here (rose refl) (omega arith) in omega arith
counted false before here after more later rose reached below rest = omega arith

by_storage : (tells : Bool) (before : FaultCounts) (e : Entry) (mark : FaultMark) → HasFault tells before e mark → is_failure StorageFailure (failure_marked mark) ≡ true → Rose before.faults e.faults
by_storage tells before e (Storage access) fault is = fault
by_storage tells before e mark fault is = cc

by_hardware : (tells : Bool) (before : FaultCounts) (e : Entry) (mark : FaultMark) → HasFault tells before e mark → is_failure HardwareFailure (failure_marked mark) ≡ true → Rose before.device_faults e.device_faults
by_hardware tells before e Hardware fault is = fault
by_hardware tells before e mark fault is = cc

not_corrupt : (before : FaultCounts) (e : Entry) (mark : FaultMark) → HasFault true before e mark → is_failure DataCorrupt (failure_marked mark) ≡ false
not_corrupt before e Corrupt fault = cc
not_corrupt before e mark fault = refl

-- a failure more counts where it is the one that is looked for
one_more : (status : Status) (e : Entry) (h : List Entry) →
    count_by (is_failure status) (failures_marked (e ∷ h)) ≡ one (is_failure status (failure_marked e.mark)) + count_by (is_failure status) (failures_marked h)
one_more status e h = sum_by-cons (λ f. one (is_failure status f)) (failure_marked e.mark) (failures_marked h)

storage_bound : (tells : Bool) (before : Opening) (h : List Entry) → IsCaused tells before.counts h → AreRising tells before h → (last_counts before.counts h).faults < 2 ^ 64 - 1 →
    before.counts.faults + count_by (is_failure StorageFailure) (failures_marked h) ≤ (last_counts before.counts h).faults
storage_bound tells before [] caused rising below = omega arith
storage_bound tells before (e ∷ h) caused rising below =
    let more = one_more StorageFailure e h in
    let all = counted (is_failure StorageFailure (failure_marked e.mark)) before.counts.faults e.faults (last_counts (counts_of e) h).faults (count_by (is_failure StorageFailure) (failures_marked h)) rising.0.faults
    (by_storage tells before.counts e e.mark caused.0) (last_faults tells (opening_after e) h rising.1) below (storage_bound tells (opening_after e) h caused.1 rising.1 below) in omega (arith, more, all)

hardware_bound : (tells : Bool) (before : Opening) (h : List Entry) → IsCaused tells before.counts h → AreRising tells before h → (last_counts before.counts h).device_faults < 2 ^ 64 - 1 →
    before.counts.device_faults + count_by (is_failure HardwareFailure) (failures_marked h) ≤ (last_counts before.counts h).device_faults
hardware_bound tells before [] caused rising below = omega arith
hardware_bound tells before (e ∷ h) caused rising below =
    let more = one_more HardwareFailure e h in
    let all = counted (is_failure HardwareFailure (failure_marked e.mark)) before.counts.device_faults e.device_faults (last_counts (counts_of e) h).device_faults (count_by (is_failure HardwareFailure) (failures_marked h)) rising.0.device_faults
    (by_hardware tells before.counts e e.mark caused.0) (last_device_faults tells (opening_after e) h rising.1) below (hardware_bound tells (opening_after e) h caused.1 rising.1 below) in omega (arith, more, all)

none_corrupt : (before : FaultCounts) (h : List Entry) → IsCaused true before h → count_by (is_failure DataCorrupt) (failures_marked h) ≡ 0
none_corrupt before [] caused = refl
none_corrupt before (e ∷ h) caused =
    let more = one_more DataCorrupt e h in let here = ap one (not_corrupt before e e.mark caused.0) in let rest = none_corrupt (counts_of e) h caused.1 in
    let z : one false ≡ 0 = refl in omega (arith, more, here, rest, z)

pub bounded : (tells : Bool) (before : Opening) (h : List Entry) → IsCaused tells before.counts h → AreRising tells before h → AreBounded tells before.counts (last_counts before.counts h) (failures_marked h)
bounded tells before h caused rising = record {
  storage = storage_bound tells before h caused rising;
  hardware = hardware_bound tells before h caused rising;
  corrupt = λ t. none_corrupt before.counts h (subst (λ b. IsCaused b before.counts h) t caused);
}

-- COUNTS THAT DON'T RISE

pub stands_still : (before now : ℕ) → (Rose before now → ⊥) → (now ≤ before) × (now < 2 ^ 64 - 1)
stands_still before now still = elim (leb_tells (min (before + 1) (2 ^ 64 - 1)) now) [
  | inl rose ↦ absurd (still rose.1)
  | inr less ↦ (let l = less.1 in omega arith, let l = less.1 in omega arith)
]

none_more : (b : Bool) (n : ℕ) → one b + n ≤ 0 → b ≡ false
none_more true n few = absurd (omega arith)
none_more false n few = refl

unmarked : (mark : FaultMark) → is_failure StorageFailure (failure_marked mark) ≡ false → is_failure HardwareFailure (failure_marked mark) ≡ false → is_failure DataCorrupt (failure_marked mark) ≡ false → mark ≡ Plain
unmarked Plain s h c = refl
unmarked (Storage access) s h c = cc
unmarked Hardware s h c = cc
unmarked Corrupt s h c = cc

-- an entry that isn't counted, where none is
none_here : (status : Status) (e : Entry) (h : List Entry) → count_by (is_failure status) (failures_marked (e ∷ h)) ≤ 0 →
    (is_failure status (failure_marked e.mark) ≡ false) × (count_by (is_failure status) (failures_marked h) ≤ 0)
none_here status e h few =
    let more = one_more status e h in
    (none_more (is_failure status (failure_marked e.mark)) (count_by (is_failure status) (failures_marked h)) (omega (arith, more, few)), omega (arith, more, few))

-- where none is marked, all are plain
pub all_plain : (h : List Entry) → count_by (is_failure StorageFailure) (failures_marked h) ≤ 0 → count_by (is_failure HardwareFailure) (failures_marked h) ≤ 0 → count_by (is_failure DataCorrupt) (failures_marked h) ≤ 0 → ArePlain h
all_plain [] s h c = All-nil (λ e. e.mark ≡ Plain)
all_plain (e ∷ es) s h c =
    let s = none_here StorageFailure e es s in let h = none_here HardwareFailure e es h in let c = none_here DataCorrupt e es c in
    All-cons (λ e. e.mark ≡ Plain) e es (unmarked e.mark s.0 h.0 c.0) (all_plain es s.1 h.1 c.1)
