-- What of a history a file keeps over a crash: the keys that are durable after it, and those in doubt.
use Rattle.std.specs.{Prelude.ℕ, Prelude.Bool, Prelude.true, Prelude.false, Prelude.List, Prelude.[], Prelude.◌∷◌, Prelude.take, Prelude.Option, Prelude.Some, Prelude.None, Prelude.if◌then◌else◌, Option.option_map_or}
use Rattle.std.specs.FinMap as map
use Rattle.disk_face.specs.Moments.{after_all, KeepsPromise}
use Rattle.persistent_keys.specs.Files.{Stored, stored, Keys, Doubt, FitsKeys}
use Rattle.store_model.specs.Prelude.{Key, Store, is_volatile, Destroy, FaultMark, Plain, Storage, Writing, Service, Request, OnStore, Entry, outcome_of, key_changed}

-- what a file keeps of a key: all of a persistent one
abbrev pub kept : Option Key → Option Stored
kept None = None
kept (Some key) = if is_volatile key.attributes then None else Some (stored key.number key.attributes key.bytes)

abbrev pub durable_keys : Store → Keys
durable_keys store id = kept (map.get store.keys id)

abbrev pub is_destruction : Request → Bool
is_destruction (OnStore (Destroy id)) = true
is_destruction _ = false

-- What a call with a mark that makes or destroys this key of the file leaves in doubt. A write that succeeds closes all
-- cells in doubt. One that fails leaves its own key in doubt, alone where they had been closed; and where they hadn't, a
-- creation has touched no cell of its own.
abbrev pub doubt_by : FaultMark → (destroys : Bool) → Stored → Doubt → Doubt
doubt_by Plain destroys key doubt = []
doubt_by (Storage (Writing true)) destroys key doubt = (key.attributes, key.bytes) ∷ []
doubt_by (Storage (Writing false)) true key doubt = (key.attributes, key.bytes) ∷ doubt
doubt_by _ destroys key doubt = doubt

-- the service, and the keys in doubt
pub record Course : Type 0 where
  pub service : Service
  pub doubt : Doubt

abbrev pub doubt_after : Entry → Course → Doubt
doubt_after e s = option_map_or (λ key. doubt_by e.mark (is_destruction e.call) key s.doubt) (kept (key_changed s.service e.caller e.call)) s.doubt

abbrev pub after : Entry → Course → Course
after e s = record { service = (outcome_of s.service e).service; doubt = doubt_after e s }

-- as it was opened, nothing is in doubt
abbrev pub opened : Service → Course
opened start = record { service = start; doubt = [] }

abbrev pub course_of : Service → List Entry → Course
course_of start h = after_all after h (opened start)

-- an image has the durable keys, together with some of those in doubt
abbrev pub FitsCourse : Course → List ℕ → Type 0
FitsCourse s image = FitsKeys (durable_keys s.service.store) s.doubt image

-- it has those after the first so many entries of a history
abbrev pub FitsPrefix : List ℕ → Service → List Entry → ℕ → Type 0
FitsPrefix image start h count = FitsCourse (course_of start (take count h)) image

-- a crash since the opening has left an image that fits some prefix, and one since an entry was done one that holds it
abbrev pub KeepsKeys : (left_since : ℕ → List ℕ → Type 0) → (now opening : ℕ) → Service → List Entry → Type 0
KeepsKeys left_since now opening start h = KeepsPromise after FitsCourse (λ e. e.done) left_since now opening (opened start) h
