-- What a run with owners prints for one of them, and that it depends on no other.
use Rattle.std.specs.Prelude.{ℕ, ◌≡◌, true, List, All, None, is_some, map}
use Rattle.owner_space.specs.{declared.names.Names.Names, declared.names.Names.TheVariants.Owned, Owners.owners_in, Isolation.calls_of, Isolation.only}
use Rattle.store_model.specs.Prelude.{Entry, Service, service_of}
use Rattle.locked_store.specs.Prelude.{IsStartOf, ToldBy, World}
use Rattle.script_lang.specs.Prelude.{ReplyLine, Turn, numbered, turns_from, turns_of, without_rank}
use Rattle.session_host.specs.Places.{failure_of}

-- the reply lines of a session's turns, without their ranks
abbrev pub unranked_lines : List Turn → List ReplyLine
unranked_lines turns = map without_rank (numbered 1 turns)

-- a line that tells of no failed device
abbrev pub TellsNoFailure : ReplyLine → Type 0
TellsNoFailure line = failure_of line ≡ None

-- the reply lines of a session without their ranks, where its owner's calls alone, in their order, are replayed from the start with
-- its owner's keys alone
abbrev pub lines_alone : (owners : List ℕ) → (session : ℕ) → Service → List Entry → List ReplyLine
lines_alone owners session start history =
    let owner : ℕ = owners_in owners session in
    unranked_lines (turns_of session (turns_from (Owned owners) 0 (service_of (only owner start.store)) (calls_of (owners_in owners) owner history)))

-- Owners don't see each other: where sessions have owners and no reply tells of a failed device, the reply lines of each session, without
-- their ranks, are those of its owner's calls and keys alone, from each start from which the history is told, where the devices tell their keys.
abbrev pub AreIsolated : {D A C : Type 0} → World D A C → Names → List Entry → (session_turns : ℕ → List Turn) → List ReplyLine → Type 0
AreIsolated w names history turns replies =
    (owners : List ℕ) (start : Service) → names ≡ Owned owners → IsStartOf w start → ToldBy w start history → is_some (w.devices.keys w.opened.devices.value) ≡ true →
    All TellsNoFailure replies → (session : ℕ) → unranked_lines (turns session) ≡ lines_alone owners session start history
