-- Histories whose counts and moments never fall.
use Rattle.store_core.proofs.Common.{[], arith, Bool, done_at, Entry, last_counts, length, List, Opening, suc, true, ℕ, ◌++◌, ◌<◌, ◌∷◌, ◌≡◌, ◌≤◌}
use Rattle.store_core.specs.Rising.{AreRising, opening_after}

-- one entry more, whose moment is the last of the longer history
pub rising_push : (tells : Bool) (before : Opening) (h : List Entry) (e : Entry) → AreRising tells before h →
    (last_counts before.counts h).faults ≤ e.faults → (last_counts before.counts h).device_faults ≤ e.device_faults →
    (tells ≡ true → before.moment ≤ e.done) → (tells ≡ true → (k : ℕ) → k < length (h ++ e ∷ []) → done_at (λ (x : Entry). x.done) (h ++ e ∷ []) k ≤ e.done) → AreRising tells before (h ++ e ∷ [])
rising_push tells before [] e rising faults device_faults opened done = (record { faults = faults; device_faults = device_faults; done = opened }, tt)
rising_push tells before (x ∷ h) e rising faults device_faults opened done =
    (rising.0, rising_push tells (opening_after x) h e rising.1 faults device_faults (λ told. done told 0 (omega arith)) (λ told k lt. done told (suc k) (omega arith)))
