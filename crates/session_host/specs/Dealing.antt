-- Workers as sessions are dealt to them, and as these are taken back.
use Rattle.std.specs.Prelude.{ℕ, ◌≡◌, ◌≤◌, ◌<◌, ◌+◌, ◌-◌, ◌%◌, ◌==◌, ◌∷◌, ◌++◌, cond, zero, suc, List, [], All, length, get_or, None, vec_capacity}
use Rattle.locked_store.specs.Prelude.{World}
use Rattle.callers.specs.declared.caller.Caller.{Caller}
use Rattle.owner_space.specs.declared.names.Names.{Names}
use Rattle.script_lang.specs.{declared.replies.Replies.Replies, declared.replies.ReplyForm.ReplyForm}
use Rattle.session_host.specs.{declared.session.Session.Session, declared.worker.Worker.Worker, Workers.HaveForm, Workers.HaveRun, Workers.numbers_of}

-- the numbers from 17 - j to 16 whose remainder is this, the greatest first: those of a thread's sessions
abbrev pub dealt : (workers remainder : ℕ) → ℕ → List ℕ
dealt workers remainder zero = []
dealt workers remainder (suc j) = dealt workers remainder j ++ cond ((16 - j) % workers == remainder) ((16 - j) ∷ []) []

module _ {D A C : Type 0} where
  -- a worker without a session, with room for sixteen
  pub record IsFree (t : Worker D A C) : Type 0 where
    pub none : t.sessions.items ≡ []
    pub space : 16 ≤ vec_capacity t.sessions
    pub buffer : 16448 ≤ length t.buffer.items
    pub fresh : t.last ≡ None

  -- each worker has its sessions of the last j numbers
  abbrev pub HaveOwn : ℕ → List (Worker D A C) → Type 0
  HaveOwn j workers = (i : ℕ) (d : Worker D A C) → i < length workers → numbers_of (get_or workers i d).sessions.items ≡ dealt (length workers) i j

  -- all sessions are dealt, with replies of this form, and none has made a call
  pub record AreDealt (w : World D A C) (names : Names) (form : ReplyForm) (workers : List (Worker D A C)) : Type 0 where
    pub own : HaveOwn 16 workers
    pub forms : All (λ t. HaveForm form t.sessions.items) workers
    pub begun : All (HaveRun w names []) workers

  -- a session of a worker has this number, this caller and these replies
  pub record IsFrom (workers : List (Worker D A C)) (number : ℕ) (caller : Caller D A C) (replies : Replies) : Type 0 where
    pub worker : ℕ
    pub place : ℕ
    pub there : worker < length workers
    pub within : (t : Worker D A C) → place < length (get_or workers worker t).sessions.items
    pub number_is : caller.number ≡ number
    pub caller_is : (t : Worker D A C) (s : Session D A C) → (get_or (get_or workers worker t).sessions.items place s).caller ≡ caller
    pub replies_are : (t : Worker D A C) (s : Session D A C) → (get_or (get_or workers worker t).sessions.items place s).replies ≡ replies

  -- the callers and the replies of so many sessions were taken, by their numbers from 1 on
  pub record AreTaken (count : ℕ) (workers : List (Worker D A C)) (callers : List (Caller D A C)) (replies : List Replies) : Type 0 where
    pub callers_are : length callers ≡ count
    pub replies_are : length replies ≡ count
    pub each : (k : ℕ) (c : Caller D A C) (r : Replies) → k < count → IsFrom workers (k + 1) (get_or callers k c) (get_or replies k r)
