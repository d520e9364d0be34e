-- What a script's calls answer, and what is printed of it.
use Rattle.std.specs.Prelude.{ℕ, zero, suc, ◌≡◌, ◌+◌, ◌==◌, List, [], ◌∷◌, ◌++◌, filter, slice_get, Option, IfSome, option_map}
use Rattle.store_model.specs.Call as model
use Rattle.store_model.specs.Prelude.{Output, Reply, output_bytes, Service, Entry, outcome_of, reply_at}
use Rattle.owner_space.specs.{declared.names.Names.Names, Naming.asked, Naming.told}
use Rattle.script_lang.specs.{declared.script.ScriptLine.ScriptLine, Commands.request_of, Replies.ReplyLine}

-- the identifier that a call gave, or 0
abbrev pub id_given : Output → ℕ
id_given (model.Identifier id) = id
id_given _ = 0

-- a call as it stands in a history: its rank, and what its session is told of the reply when the history is replayed
pub record Turn : Type 0 where
  pub entry : Entry
  pub rank : ℕ
  pub reply : Reply

-- the turns of a history, from a rank on
abbrev pub turns_from : Names → ℕ → Service → List Entry → List Turn
turns_from names rank service [] = []
turns_from names rank service (e ∷ es) =
    let after = outcome_of service e in
    record { entry = e; rank = rank; reply = told names after.reply } ∷ turns_from names (rank + 1) after.service es

-- the turn at a place has this place as its rank, and what is told of the replay's reply there; there is none past the end
abbrev pub TurnsAreReplayed : Type 0
TurnsAreReplayed =
    (names : Names) (start : Service) (history : List Entry) (place : ℕ) → let at : Option Turn = slice_get (turns_from names 0 start history) place in
    IfSome at (λ t. t.rank ≡ place) × (option_map (λ t. t.reply) at ≡ option_map (told names) (reply_at start history place))

abbrev pub turns_of : ℕ → List Turn → List Turn
turns_of session ts = filter (λ t. t.entry.caller == session) ts

-- A session's turns are the calls of its lines, in the order of the script, as they are asked of the store. A name stands for
-- the identifier that the session was told before.
abbrev pub AreCalls : Names → List ℕ → List ScriptLine → List Turn → Type 0
AreCalls names ids [] [] = Unit {0}
AreCalls names ids (line ∷ lines) (turn ∷ turns) =
    (turn.entry.caller ≡ line.session) × (turn.entry.call ≡ asked names line.session (request_of ids line.call))
    × AreCalls names (ids ++ id_given turn.reply.output ∷ []) lines turns
AreCalls names ids _ _ = ⊥

-- a printed line: the number is the place among the session's own, from 1
abbrev pub printed : ℕ → Turn → ReplyLine
printed number t = record {
  session = t.entry.caller;
  number = number;
  rank = t.rank;
  status = t.reply.status;
  bytes = output_bytes t.reply.output;
}

-- the reply lines of a session's turns, numbered from a number on
abbrev pub numbered : ℕ → List Turn → List ReplyLine
numbered number [] = []
numbered number (t ∷ ts) = printed number t ∷ numbered (number + 1) ts

-- the reply lines of sessions 1 to n, by the turns of each session
abbrev pub replies_to : ℕ → (ℕ → List Turn) → List ReplyLine
replies_to zero own = []
replies_to (suc n) own = replies_to n own ++ numbered 1 (own (suc n))
