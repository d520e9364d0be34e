-- What it is for the store under the lock to stand for a history, and for what the callers have out of it.
use Rattle.std.specs.{Prelude.◌≡◌, Prelude.ℕ, Prelude.List, Prelude.is_some, List.AllByRecursion}
use Rattle.key_cells.specs.Prelude.{store_size}
use Rattle.secret_bytes.specs.Buffer.{IsClear}
use Rattle.disk_face.specs.declared.Disk as disk
use Rattle.driver_dispatch.specs.declared.devices.Devices as devices
use Rattle.admission.specs.declared.rules.Admission as admission
use Rattle.key_slots.specs.Holdings.{Pairs}
use Rattle.store_model.specs.Prelude.{Plain, OnHandle, Abort, Service, IsCaller, Entry}
use Rattle.store_core.specs.{declared.store.Store.Store, Prelude.StandsFor, Prelude.AreRising, Prelude.IsStart, Prelude.opening_of}

-- an entry of no history: one is named where none is made
abbrev pub some_entry : Entry
some_entry = record { caller = 0; call = OnHandle 1 Abort; mark = Plain; done = 0; faults = 0; device_faults = 0 }

abbrev pub caller_of : Entry → ℕ
caller_of e = e.caller

-- The store stands for the history, of calls by sixteen callers, from each start that its opening permits, and there is such a
-- start. In the history no count of faults falls, and no moment. Between two turns the disk has its size and the buffer is
-- clear; disk and devices tell what they told at the opening.
pub record HoldsHistory {D A C : Type 0} (d : disk.Ghosts D) (a : devices.Ghosts A) (c : admission.Ghosts C)
    (store : Store D A C) (h : List Entry) (all : List Pairs) : Type 0 where
  pub start : Service
  pub starts : IsStart d a c store.opened start
  pub each : (start : Service) → IsStart d a c store.opened start →
      StandsFor d a c store start (opening_of d a c store.opened) h all
  pub signed : AllByRecursion IsCaller h
  pub rising : AreRising (is_some (d.contents store.opened.file.value.cells.disk)) (opening_of d a c store.opened) h
  pub sized : d.size store.file.cells.disk ≡ store_size
  pub clear : IsClear store.buffer
  pub tells : is_some (d.contents store.file.cells.disk) ≡ is_some (d.contents store.opened.file.value.cells.disk)
  pub knows : is_some (a.keys store.devices) ≡ is_some (a.keys store.opened.devices.value)
