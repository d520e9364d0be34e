-- What an owner's callers are answered doesn't depend on the keys and calls of other owners.
use Rattle.std.specs.Prelude.{◌≡◌, ◌<◌, ℕ, false, ◌==◌, List, [], ◌∷◌, filter}
use Rattle.std.specs.List.{AllByRecursion}
use Rattle.std.specs.FinMap as map
use Rattle.store_model.specs.Store.{Settings, OpenedKey, Store, start_of, is_in_range}
use Rattle.store_model.specs.declared.limits.Limits.TheVariants.{PerRange}
use Rattle.store_model.specs.{Call.Reply, Faults.is_of_fault, Handles.Service, Handles.Served, Handles.service_of, Requests.Request, Replay.Entry, Replay.outcome_of, Sound.IsSoundStore, Origin.IsCaller}
use Rattle.owner_space.specs.Owners.{Owners, owner_count, request_inside}

-- a store with the keys of one owner's range alone; how many were found stays
abbrev pub only : ℕ → Store → Store
only owner store = record store { keys = map.retain_keys store.keys (is_in_range owner) }

-- an entry of a history, and its reply as the history is replayed
pub record Answered : Type 0 where
  pub entry : Entry
  pub reply : Reply

abbrev pub answered_from : Service → List Entry → List Answered
answered_from service [] = []
answered_from service (e ∷ es) = let served : Served = outcome_of service e in record { entry = e; reply = served.reply } ∷ answered_from served.service es

-- the answers to one owner's callers, and those callers' calls, in their order
abbrev pub answered_to : Owners → (owner : ℕ) → List Answered → List Answered
answered_to owners owner = filter (λ a. owners a.entry.caller == owner)

abbrev pub calls_of : Owners → (owner : ℕ) → List Entry → List Entry
calls_of owners owner = filter (λ e. owners e.caller == owner)

-- a call of a caller with an owner, in which keys have the identifiers that the store has for what the owner names
pub record IsOwnersCall (owners : Owners) (e : Entry) : Type 0 where
  pub caller : IsCaller e
  pub owner : owners e.caller < owner_count
  pub named : Request
  pub inner : e.call ≡ request_inside owners e.caller named

-- a reply that tells of no failed device
abbrev pub TellsNoFault : Answered → Type 0
TellsNoFault a = is_of_fault a.reply.status ≡ false

-- From each sound start whose keys are limited by range, over every history of owners' calls of which no reply tells of a
-- failed device: what an owner's callers are answered is what a store with that owner's keys alone answers to those
-- callers' calls alone.
abbrev pub OwnersAreIsolated : Type 0
OwnersAreIsolated =
    (settings : Settings) (found : List OpenedKey) (owners : Owners) (owner : ℕ) (h : List Entry) →
    let start : Store = start_of settings found in
    settings.limits ≡ PerRange → IsSoundStore start →
    AllByRecursion (IsOwnersCall owners) h → AllByRecursion TellsNoFault (answered_from (service_of start) h) →
    answered_to owners owner (answered_from (service_of start) h) ≡ answered_from (service_of (only owner start)) (calls_of owners owner h)
