-- What the end of a turn is handed: the store that it leaves, by the pass in its turn.
use Rattle.std.specs.Prelude.{[], ◌∷◌, ◌++◌, Option}
use Rattle.atomic_table.specs.declared.shared.Seat.{Seat}
use Rattle.turn_history.specs.{declared.pass.View.View, Prelude.entries_of, Prelude.with_held_by}
use Rattle.disk_face.specs.declared.Disk as disk
use Rattle.driver_dispatch.specs.declared.devices.Devices as devices
use Rattle.admission.specs.declared.rules.Admission as admission
use Rattle.store_model.specs.Prelude.{Request, Entry}
use Rattle.store_core.specs.{declared.store.Opened.Opened, declared.store.Store.Store}
use Rattle.locked_store.specs.{declared.changes.Change.Change, declared.changes.Met.Met, Standing.HoldsHistory, Turning.after_change, Turning.mark_met, Turning.turn_entry}

-- the entry of a pass's request
abbrev pub entry_left : {V D A C : Type 0} → disk.Ghosts D → devices.Ghosts A → Store D A C → Seat (Option V) (View Entry (Opened D A C)) → Request → Met → Entry
entry_left d a store pass call met = turn_entry d a store pass.me.0.number call (mark_met met)

module _ {V D A C : Type 0} (d : disk.Ghosts D) (a : devices.Ghosts A) (c : admission.Ghosts C) (store : Store D A C) (pass : Seat (Option V) (View Entry (Opened D A C))) where
  -- The store stands for what the pass has seen with that entry, or without one, and for what the callers then have out.
  abbrev pub StandsRanked : Request → Met → Change → Type 0
  StandsRanked call met change = HoldsHistory d a c store (entries_of pass.me.0.seen ++ entry_left d a store pass call met ∷ [])
      (with_held_by pass.me.0.holdings pass.me.0.number (after_change change pass.me.0.holding))

  abbrev pub StandsUnranked : Change → Type 0
  StandsUnranked change = HoldsHistory d a c store (entries_of pass.me.0.seen) (with_held_by pass.me.0.holdings pass.me.0.number (after_change change pass.me.0.holding))
