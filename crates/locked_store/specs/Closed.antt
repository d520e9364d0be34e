-- Passes that are new, and what is known once all are handed in.
use Rattle.std.specs.Prelude.{◌≡◌, ◌<◌, ◌≤◌, ℕ, true, List, All, length, slice_index_or, Option, is_some}
use Rattle.key_cells.specs.Prelude.{cell_count}
use Rattle.atomic_table.specs.declared.shared.Seat.{Seat}
use Rattle.turn_history.specs.{declared.pass.Account.Account, declared.pass.View.View, Prelude.entries_of, Prelude.calls_by, Prelude.StartsWith}
use Rattle.store_model.specs.Prelude.{Service, Entry, replay, last_counts}
use Rattle.store_core.specs.{declared.store.Opened.Opened, Prelude.FreedCellsAreZeros, Prelude.HasKeyOrIsClosed, Prelude.KeepsKeys, Prelude.course_of, Prelude.durable_keys, Prelude.opening_of}
use Rattle.locked_store.specs.{Standing.caller_of, Turning.IsAt, Turning.IsLegal, Turning.IsStartOf, Worlds.World}

-- each of these passes is of this lock, and outside any turn
abbrev pub AreAt : {V D A C : Type 0} (w : World D A C) → List (Seat (Option V) (View Entry (Opened D A C))) → Type 0
AreAt w passes = (k : ℕ) (p : _) → k < length passes → IsAt w (slice_index_or passes k p)

-- There is one history. The passes that were handed in have seen beginnings of it, and their calls are their numbers' entries in
-- it. Each of its marks stands where it may and has its fault; the last entry's counts are those of the disk and the devices
-- that come back. The disk tells its bytes where it told them as it was opened, and then a crash since has left the keys of a
-- prefix, and one since a call was done those of a prefix that holds it. The cells that destructions have freed are zeros since,
-- until a creation takes them. A crash now leaves in each cell a persistent key of the one-thread store after the history, or
-- zeros, where no key is in doubt, and else one in doubt too, or a closed cell.
pub record IsClosed {D A C : Type 0} (w : World D A C) (disk : D) (devices : A) (accounts : List (Account Entry)) : Type 0 where
  pub turns : List (Option Entry)
  pub signed : All (λ (e : Entry). (0 < e.caller) × (e.caller ≤ 16)) (entries_of turns)
  pub seen : All (λ (a : Account Entry). StartsWith turns a.seen) accounts
  pub called : All (λ (a : Account Entry). 0 < a.number → calls_by caller_of a.number (entries_of turns) ≡ a.calls) accounts
  pub legal : IsLegal w (entries_of turns)
  pub counts : last_counts (opening_of w.disk w.devices w.rules w.opened).counts (entries_of turns) ≡ record { faults = w.disk.faults disk; device_faults = w.devices.faults devices }
  pub tells : is_some (w.disk.contents disk) ≡ is_some (w.disk.contents w.opened.file.value.cells.disk)
  pub promise : is_some (w.disk.contents w.opened.file.value.cells.disk) ≡ true → (start : Service) → IsStartOf w start →
      KeepsKeys (w.disk.left_since disk) (w.disk.moment disk) (opening_of w.disk w.devices w.rules w.opened).moment start (entries_of turns)
  pub freed : is_some (w.disk.contents w.opened.file.value.cells.disk) ≡ true → (start : Service) → IsStartOf w start → FreedCellsAreZeros (w.disk.left_since disk) start (entries_of turns)
  pub cells : is_some (w.disk.contents w.opened.file.value.cells.disk) ≡ true → (start : Service) → IsStartOf w start →
      (image : List ℕ) → w.disk.left_since disk (w.disk.moment disk) image → (cell : ℕ) → cell < cell_count →
      HasKeyOrIsClosed (durable_keys (replay start (entries_of turns)).store) (course_of start (entries_of turns)).doubt cell image
