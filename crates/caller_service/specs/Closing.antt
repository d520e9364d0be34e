-- What is known once a service is closed.
use Rattle.std.specs.Prelude.{◌≡◌, ◌<◌, ◌≤◌, ℕ, true, List, All, length, get_or, is_some}
use Rattle.key_cells.specs.Prelude.{cell_count}
use Rattle.turn_history.specs.Prelude.{entries_of, calls_by, StartsWith}
use Rattle.store_model.specs.Prelude.{Service, Entry, replay, last_counts}
use Rattle.store_core.specs.Prelude.{FreedCellsAreZeros, HasKeyOrIsClosed, KeepsKeys, course_of, durable_keys, opening_of}
use Rattle.locked_store.specs.Prelude.{caller_of, IsLegal, IsStartOf, World}
use Rattle.callers.specs.{Retired.IsRetired, Retired.MakesNoCall, declared.caller.Caller.Caller}

-- What is known of a history since an opening, and of the disk and the devices after it. Its calls are by sixteen callers. Each of
-- its marks stands where it may and has its fault; the last entry's counts are those of disk and devices. The disk tells its
-- bytes where it told them as it was opened, and then a crash since has left the keys of a prefix, and one since a call was done
-- those of a prefix that holds it. The cells that destructions have freed are zeros since, until a creation takes them. A crash
-- now leaves in each cell a persistent key of the one-thread store after the history, or zeros, where no key is in doubt, and
-- else one in doubt too, or a closed cell.
pub record IsLeft {D A C : Type 0} (w : World D A C) (history : List Entry) (disk : D) (devices : A) : Type 0 where
  pub signed : All (λ (e : Entry). (0 < e.caller) × (e.caller ≤ 16)) history
  pub legal : IsLegal w history
  pub counts : last_counts (opening_of w.disk w.devices w.rules w.opened).counts history ≡ record { faults = w.disk.faults disk; device_faults = w.devices.faults devices }
  pub tells : is_some (w.disk.contents disk) ≡ is_some (w.disk.contents w.opened.file.value.cells.disk)
  pub promise : is_some (w.disk.contents w.opened.file.value.cells.disk) ≡ true → (start : Service) → IsStartOf w start →
      KeepsKeys (w.disk.left_since disk) (w.disk.moment disk) (opening_of w.disk w.devices w.rules w.opened).moment start history
  pub freed : is_some (w.disk.contents w.opened.file.value.cells.disk) ≡ true → (start : Service) → IsStartOf w start → FreedCellsAreZeros (w.disk.left_since disk) start history
  pub cells : is_some (w.disk.contents w.opened.file.value.cells.disk) ≡ true → (start : Service) → IsStartOf w start →
      (image : List ℕ) → w.disk.left_since disk (w.disk.moment disk) image → (cell : ℕ) → cell < cell_count →
      HasKeyOrIsClosed (durable_keys (replay start history).store) (course_of start history).doubt cell image

-- There is one history, of which these callers have seen beginnings, and their calls are their numbers' entries in it.
pub record IsClosedOver {D A C : Type 0} (w : World D A C) (disk : D) (devices : A) (callers : List (Caller D A C)) : Type 0 where
  pub history : List Entry
  pub left : IsLeft w history disk devices
  pub seen : All (λ (c : Caller D A C). StartsWith history (entries_of c.pass.me.0.seen)) callers
  pub called : All (λ (c : Caller D A C). calls_by caller_of c.pass.me.0.number history ≡ c.pass.me.0.calls) callers

module _ {D A C : Type 0} (w : World D A C) where
  -- a caller was retired, and has made no further call
  pub record WasRetired (old new : Caller D A C) : Type 0 where
    pub retired : IsRetired w.lock new
    pub quiet : MakesNoCall old.pass.me.0 new.pass.me.0

  -- each of these was
  pub record WereRetired (old new : List (Caller D A C)) : Type 0 where
    pub as_many : length new ≡ length old
    pub each : (k : ℕ) (d : Caller D A C) → k < length old → WasRetired (get_or old k d) (get_or new k d)
