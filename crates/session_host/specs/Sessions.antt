-- What is known of callers that make the calls of a script's lines.
use Rattle.std.specs.Prelude.{ℕ, ◌≡◌, ◌⊎◌, ◌≤◌, ◌*◌, List, [], ◌∷◌, ◌++◌, All, length, map}
use Rattle.turn_history.specs.{declared.pass.View.View, Prelude.entries_of, Prelude.StartsWith}
use Rattle.store_model.specs.Prelude.{Reply, FaultMark, Service, Request, Entry}
use Rattle.store_core.specs.declared.store.Opened.{Opened}
use Rattle.callers.specs.{Called.IsCalled, Called.KnowsReply, Failures.failure_marked, Failures.failure_told, Ready.IsReady, declared.caller.Caller.Caller}
use Rattle.locked_store.specs.Prelude.{World, IsStartOf}
use Rattle.owner_space.specs.{declared.names.Names.Names, Naming.told}
use Rattle.script_lang.specs.{declared.script.ScriptLine.ScriptLine, Prelude.AreCalls, Prelude.AreKept, Prelude.ReplyLine, Prelude.lines_of, Prelude.numbered, Prelude.Turn, Prelude.id_given, declared.replies.Replies.Replies}
use Rattle.session_host.specs.{declared.session.Session.Session, Places.of_calls, Places.ranked_call, Replying.ArePrintedAlike}

-- the calls of these lines are among a history's, in this order
abbrev pub AreCalledIn : List ScriptLine → List Entry → Type 0
AreCalledIn [] es = Unit {0}
AreCalledIn (line ∷ lines) [] = ⊥
AreCalledIn (line ∷ lines) (e ∷ es) = ((e.caller ≡ line.session) × AreCalledIn lines es) ⊎ AreCalledIn (line ∷ lines) es

-- a caller has made one more call, of its own number, and has seen more before it
pub record GoesFurther {D A C : Type 0} (session : ℕ) (old new : Caller D A C) : Type 0 where
  pub before : List Entry
  pub entry : Entry
  pub since : StartsWith before (entries_of old.pass.me.0.seen)
  pub by : entry.caller ≡ session
  pub seen : StartsWith (entries_of new.pass.me.0.seen) (before ++ entry ∷ [])

module _ {D A C : Type 0} (w : World D A C) (names : Names) where
  -- The reply to an entry after a history, as its session is told. It is printed as what is told of one of some one-thread service to
  -- the call: of the replay's, as far as the history with the entry is told. Whatever is told, it tells of a device that failed exactly
  -- where the entry's mark does.
  pub record IsReplyTo (before : List Entry) (e : Entry) (reply : Reply) : Type 0 where
    pub replied : KnowsReply w (λ r. ArePrintedAlike reply (told names r)) before e
    pub failure : (start : Service) → IsStartOf w start → failure_told reply.status ≡ failure_marked e.mark

  -- A turn is one of a history: its entry stands there at its rank, with its reply.
  pub record IsTurnIn (h : List Entry) (t : Turn) : Type 0 where
    pub before : List Entry
    pub placed : StartsWith h (before ++ t.entry ∷ [])
    pub rank : t.rank ≡ length before
    pub reply : IsReplyTo before t.entry t.reply

  -- These turns are a session's in a history, and its calls are those of these lines, in their order, where a name stands for the
  -- identifier that the session's own reply before gave.
  pub record AreTurnsIn (h : List Entry) (session : ℕ) (lines : List ScriptLine) (turns : List Turn) : Type 0 where
    pub calls : AreCalls names [] lines turns
    pub placed : map ranked_call turns ≡ of_calls (λ rank e. (rank, e)) session 0 h
    pub each : All (IsTurnIn h) turns

  -- A caller made a call. Its entry stands at the rank in what the caller has then seen, and this is what it is told.
  pub record IsMade (v u : View Entry (Opened D A C)) (call : Request) (rank : ℕ) (reply : Reply) : Type 0 where
    pub spent : ℕ
    pub mark : FaultMark
    pub before : List Entry
    pub entry : Entry
    pub called : IsCalled v u spent call mark rank before entry
    pub reply_is : IsReplyTo before entry reply

  -- A caller has made its session's calls among these lines, in their order, and no other.
  pub record HasMade (lines : List ScriptLine) (c : Caller D A C) : Type 0 where
    pub ready : IsReady w 0 c
    pub spent : c.spent ≤ 2 * length lines
    pub turns : List Turn
    pub made : AreTurnsIn (entries_of c.pass.me.0.seen) c.number (lines_of c.number lines) turns

  -- Its session has these reply lines to them, numbered from 1.
  pub record HasReplies (lines : List ScriptLine) (c : Caller D A C) (replies : List ReplyLine) : Type 0 where
    pub made : HasMade lines c
    pub printed : replies ≡ numbered 1 made.turns

  -- and they are kept so
  pub record HasKept (lines : List ScriptLine) (c : Caller D A C) (own : Replies) : Type 0 where
    pub replied : List ReplyLine
    pub replies : HasReplies lines c replied
    pub kept : AreKept own replied
    pub session : own.session ≡ c.number

  -- a session has made its calls among these lines, and has the replies and the identifiers that they gave
  pub record HasAnswered (lines : List ScriptLine) (s : Session D A C) : Type 0 where
    pub replies : HasKept lines s.caller s.replies
    pub given : s.given.items ≡ map (λ t. id_given t.reply.output) replies.replies.made.turns
