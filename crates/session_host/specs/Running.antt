-- What is known of sixteen callers that make the calls of a script's lines.
use Rattle.std.specs.Prelude.{ℕ, ◌≡◌, ◌⊎◌, ◌<◌, ◌+◌, List, [], length, flat_map, take, get_or}
use Rattle.turn_history.specs.Prelude.{entries_of}
use Rattle.locked_store.specs.Prelude.{World}
use Rattle.callers.specs.declared.caller.Caller.{Caller}
use Rattle.owner_space.specs.declared.names.Names.{Names}
use Rattle.script_lang.specs.{declared.script.ScriptLine.ScriptLine, Prelude.AreAllKept, Prelude.ReplyLine, declared.replies.Replies.Replies, declared.replies.ReplyForm.ReplyForm}
use Rattle.session_host.specs.Sessions.{HasMade, HasReplies, AreCalledIn}

-- the replies of all sessions, in their order
abbrev pub all_replies : List (List ReplyLine) → List ReplyLine
all_replies told = flat_map (λ r. r) told

module _ {D A C : Type 0} where
  -- sixteen callers, by their numbers from 1 on
  pub record AreCallers (callers : List (Caller D A C)) : Type 0 where
    pub sixteen : length callers ≡ 16
    pub numbers : (k : ℕ) (d : Caller D A C) → k < 16 → (get_or callers k d).number ≡ k + 1

  -- some caller has seen the calls of these lines in their order
  abbrev pub HaveSeen : List ScriptLine → List (Caller D A C) → Type 0
  HaveSeen lines callers =
      (lines ≡ []) ⊎ ((k : ℕ) × (k < length callers) × ((d : Caller D A C) → AreCalledIn lines (entries_of (get_or callers k d).pass.me.0.seen)))

  module _ (w : World D A C) (names : Names) (lines : List ScriptLine) (callers : List (Caller D A C)) where
    -- each caller has made the calls of the first so many lines that are its session's, and no other
    pub record HaveMade : Type 0 where
      pub are : AreCallers callers
      pub each : (k : ℕ) (d : Caller D A C) → k < 16 → (n : ℕ) × HasMade w names (take n lines) (get_or callers k d)

    -- each has made those of all lines, and these are the replies by session
    pub record HaveAnswered (told : List (List ReplyLine)) : Type 0 where
      pub sixteen : length told ≡ 16
      pub replied : (k : ℕ) (d : Caller D A C) (r : List ReplyLine) → k < 16 → HasReplies w names lines (get_or callers k d) (get_or told k r)

    -- and they are kept in this form
    pub record HaveKept (form : ReplyForm) (kept : List Replies) : Type 0 where
      pub told : List (List ReplyLine)
      pub answered : HaveAnswered told
      pub all : AreAllKept form kept (all_replies told)
      pub sixteen : length kept ≡ 16
