-- What a session's turns are where its calls and replies are told.
use Rattle.std.specs.Prelude.{ℕ, ◌≡◌, true, List, [], is_some}
use Rattle.atomic_table.specs.Seated.{TableId}
use Rattle.store_model.specs.Prelude.{Service, Entry}
use Rattle.store_core.specs.declared.store.Opened.{Opened}
use Rattle.locked_store.specs.Prelude.{IsStartOf, ToldBy, world_of}
use Rattle.owner_space.specs.declared.names.Names.{Names}
use Rattle.script_lang.specs.{declared.script.ScriptLine.ScriptLine, Prelude.AreCalls, Prelude.Turn, Prelude.numbered, Prelude.turns_from, Prelude.turns_of}
use Rattle.session_host.specs.Sessions.{AreTurnsIn}
use Rattle.disk_face.specs.declared.Disk as Disk
use Rattle.driver_dispatch.specs.declared.devices.Devices as Devices
use Rattle.admission.specs.declared.rules.Admission as Admission

-- From a start from which the history is told, where the devices tell their keys, a session's turns are printed as those of the
-- replay, of which the calls are those of the session's lines too.
abbrev pub SessionsAreReplayed : {D A C : Type 0} → Disk.Ghosts D → Devices.Ghosts A → Admission.Ghosts C → Type 0
SessionsAreReplayed {D} {A} {C} disks elements admits =
    (lock : TableId) (opened : Opened D A C) (names : Names) (start : Service) (history : List Entry) (session : ℕ) (lines : List ScriptLine) (turns : List Turn) →
    IsStartOf (world_of disks elements admits lock opened) start → ToldBy (world_of disks elements admits lock opened) start history → is_some (elements.keys opened.devices.value) ≡ true →
    AreTurnsIn (world_of disks elements admits lock opened) names history session lines turns →
    let replayed : List Turn = turns_of session (turns_from names 0 start history) in AreCalls names [] lines replayed × (numbered 1 turns ≡ numbered 1 replayed)
