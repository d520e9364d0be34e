-- The sessions of one thread.
use Rattle.std.specs.Prelude.{ℕ, ◌≡◌, ◌≢◌, ◌≤◌, ◌<◌, true, List, [], ◌∷◌, ◌++◌, All, length, take, map, get_or, Option, Some, None, IfSome, vec_capacity}
use Rattle.turn_history.specs.Prelude.{entries_of, StartsWith}
use Rattle.callers.specs.Ready.{IsReady}
use Rattle.locked_store.specs.Prelude.{World}
use Rattle.owner_space.specs.declared.names.Names.{Names}
use Rattle.script_lang.specs.{declared.replies.ReplyForm.ReplyForm, declared.script.ScriptLine.ScriptLine}
use Rattle.session_host.specs.{declared.session.Session.Session, declared.worker.Worker.Worker, Sessions.HasAnswered, Sessions.HasMade, Sessions.AreCalledIn}

-- one element of a list has changed so, and no other
pub record ChangesAt {X : Type 0} (place : ℕ) (R : X → X → Type 0) (old new : List X) : Type 0 where
  pub as_many : length new ≡ length old
  pub here : (d : X) → R (get_or old place d) (get_or new place d)
  pub others : (k : ℕ) (d : X) → k ≢ place → get_or new k d ≡ get_or old k d

module _ {D A C : Type 0} where
  abbrev pub numbers_of : List (Session D A C) → List ℕ
  numbers_of sessions = map (λ s. s.caller.number) sessions

  -- the replies of these sessions are kept in one form
  abbrev pub HaveForm : ReplyForm → List (Session D A C) → Type 0
  HaveForm form sessions = All (λ s. s.replies.form ≡ form) sessions

  -- one of these sessions makes the call of a line
  abbrev pub IsOurs : List (Session D A C) → ScriptLine → Type 0
  IsOurs sessions line = (k : ℕ) × (k < length sessions) × ((d : Session D A C) → (get_or sessions k d).caller.number ≡ line.session)

  -- a session's caller has seen the calls of these lines in their order
  abbrev pub HasSeen : List ScriptLine → List (Session D A C) → Option ℕ → Type 0
  HasSeen lines sessions None = lines ≡ []
  HasSeen lines sessions (Some last) = (last < length sessions) × ((d : Session D A C) → AreCalledIn lines (entries_of (get_or sessions last d).caller.pass.me.0.seen))

  -- no two sessions have one number
  abbrev pub AreApart : List (Session D A C) → Type 0
  AreApart sessions = (i j : ℕ) (d : Session D A C) → i < length sessions → j < length sessions → (get_or sessions i d).caller.number ≡ (get_or sessions j d).caller.number → i ≡ j

  -- a worker has one session more, and is else as it was
  pub record HasSeated (old new : Worker D A C) (s : Session D A C) : Type 0 where
    pub sessions : new.sessions.items ≡ old.sessions.items ++ s ∷ []
    pub space : vec_capacity new.sessions ≡ vec_capacity old.sessions
    pub last : new.last ≡ old.last
    pub buffer : new.buffer ≡ old.buffer

  module _ (w : World D A C) where
    -- a session's caller has seen more, and has made no further call
    pub record HasLearned (old new : Session D A C) : Type 0 where
      pub ready : IsReady w 0 new.caller
      pub number : new.caller.number ≡ old.caller.number
      pub spent : new.caller.spent ≡ old.caller.spent
      pub calls : new.caller.pass.me.0.calls ≡ old.caller.pass.me.0.calls
      pub seen : StartsWith (entries_of new.caller.pass.me.0.seen) (entries_of old.caller.pass.me.0.seen)
      pub replies : new.replies ≡ old.replies
      pub given : new.given ≡ old.given

  module _ (w : World D A C) (names : Names) where
    -- The sessions of a thread have made their calls among these lines. Where the lines are all theirs, the caller whose call
    -- was the last has seen these calls in the order of the lines.
    pub record HaveRun (lines : List ScriptLine) (t : Worker D A C) : Type 0 where
      pub room : 16448 ≤ length t.buffer.items
      pub apart : AreApart t.sessions.items
      pub answered : All (HasAnswered w names lines) t.sessions.items
      pub last : IfSome t.last (λ last. last < length t.sessions.items)
      pub order : All (IsOurs t.sessions.items) lines → HasSeen lines t.sessions.items t.last

    -- A thread ran all lines, where it says so, and else its sessions have made their calls among the first so many each.
    pub record HasWorked (lines : List ScriptLine) (old new : Worker D A C) : Type 0 where
      pub numbers : numbers_of new.sessions.items ≡ numbers_of old.sessions.items
      pub forms : (form : ReplyForm) → HaveForm form old.sessions.items → HaveForm form new.sessions.items
      pub made : All (λ s. (n : ℕ) × HasMade w names (take n lines) s.caller) new.sessions.items
      pub whole : new.whole ≡ true → HaveRun lines new
