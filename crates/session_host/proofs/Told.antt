-- What callers and sessions know, as one more line is run.
use Rattle.session_host.proofs.Common.{AnswersReply, All-nil, All-push, Err, IsOk, MatchResult, Names, Ok, asked, buffer_after, failure_in, told, All-weaker, ArePrintedAlike, AreTurnsIn, Caller, Entry, GoesFurther, HasAnswered, HasMade, IsAnswered, IsMade, IsReady, IsReplied, IsTurnIn, List, NotesLine, Opened, Output, Replies, Reply, ReplyLine, Request, Result, ScriptLine, Session, StartsWith, Status, Turn, View, World, [], ap, ap₂, arith, begins_through, caller_of, calls_by, entries_of, eq-eqb, failure_marked, id_given, known_more, length, length-append, lines_of, map, map-append, ne_eqb, next_line, numbered, of_calls, output_bytes, printed, ranked_call, refl, reply_of, request_of, subst, sym, ℕ, ◌++◌, ◌+◌, ◌==◌, ◌∙◌, ◌∷◌, ◌≡◌, ◌≢◌, ◌≤◌}
use Rattle.callers.specs.Called.{MayReply}
use Rattle.session_host.proofs.{History.calls_more, History.kept_own, History.left_out, History.numbered_length, History.numbered_more, Noted.alike, Noted.tells, Places.one_more_of, Places.same_later}

begins_since : (old before new : List Entry) (e : Entry) → StartsWith before old → StartsWith new (before ++ e ∷ []) → StartsWith new old
begins_since old before new e since seen =
    begins_through new (before ++ e ∷ []) old seen (begins_through (before ++ e ∷ []) before old (e ∷ [], refl) since)

lines_more : (session : ℕ) (lines : List ScriptLine) (line : ScriptLine) → line.session ≡ session → lines_of session (lines ++ line ∷ []) ≡ lines_of session lines ++ line ∷ []
lines_more session lines line own = kept_own (λ l. l.session == session) lines line (eq-eqb line.session session own)

lines_same : (session : ℕ) (lines : List ScriptLine) (line : ScriptLine) → line.session ≢ session → lines_of session (lines ++ line ∷ []) ≡ lines_of session lines
lines_same session lines line other = left_out (λ l. l.session == session) lines line (ne_eqb line.session session other)

-- the answer that a session is told where the store answers this
pub record IsTold (names : Names) (result answer : Result Output Status) : Type 0 where
  pub replies : (reply : Reply) → AnswersReply result reply → AnswersReply answer (told names reply)
  pub failure : failure_in answer ≡ failure_in result
  pub unwritten : (reply : Reply) (old : List ℕ) → buffer_after old (told names reply) ≡ buffer_after old reply

-- it fails with the same status
pub same_failure : (result answer : Result Output Status) → MatchResult result (λ output. IsOk answer) (λ status. answer ≡ Err status) → failure_in answer ≡ failure_in result
same_failure (Ok output) (Ok other) h = refl
same_failure (Ok output) (Err status) h = cc
same_failure (Err status) answer h = ap failure_in h

-- what a session is told of the answer to a call is the reply to its entry
pub is_made : {D A C : Type 0} (w : World D A C) (names : Names) (v u : View Entry (Opened D A C)) (call wanted : Request) (rank : ℕ) (result answer : Result Output Status) (before out : List ℕ) →
    IsAnswered w v u call rank result before out → call ≡ wanted → IsTold names result answer → IsMade w names v u wanted rank (reply_of answer out)
is_made w names v u call wanted rank result answer before out a same t = subst (λ r. IsMade w names v u r rank (reply_of answer out)) same (record {
  spent = a.turns;
  mark = a.mark;
  before = a.before;
  entry = a.entry;
  called = a.called;
  reply_is = record {
    replied = known_more {w = w} {P = λ service. (reply : Reply) × MayReply w service a.entry reply × IsReplied result before out reply}
        {Q = λ service. (reply : Reply) × MayReply w service a.entry reply × ArePrintedAlike (reply_of answer out) (told names reply)}
        (λ service r. (r.0, r.1, alike answer out (told names r.0) (record { answers = t.replies r.0 r.2.0; before = before; after = r.2.1 ∙ sym (t.unwritten r.0 before) }))) a.replied;
    failure = λ start is. tells answer out ∙ (t.failure ∙ (a.failure start is ∙ sym (ap failure_marked a.called.mark_is)));
  };
})

module _ {D A C : Type 0} (w : World D A C) (names : Names) where
  -- a caller's calls are its entries in what it has seen
  pub own_calls : (c : Caller D A C) → IsReady w 0 c → calls_by caller_of c.number (entries_of c.pass.me.0.seen) ≡ c.pass.me.0.calls
  own_calls c r = subst (λ n. calls_by caller_of n (entries_of c.pass.me.0.seen) ≡ c.pass.me.0.calls) r.number (r.at.calls r.at.first)

  -- no turn is in a history without an entry
  pub no_turns : (session : ℕ) → AreTurnsIn w names [] session [] []
  no_turns session = record { calls = tt; placed = refl; each = All-nil (IsTurnIn w names []) }

  turn_later : (whole part : List Entry) → StartsWith whole part → (t : Turn) → IsTurnIn w names part t → IsTurnIn w names whole t
  turn_later whole part s t is = record {
    before = is.before;
    placed = begins_through whole part (is.before ++ t.entry ∷ []) s is.placed;
    rank = is.rank;
    reply = is.reply;
  }

  -- a session's turns are those of a history that goes on without its calls
  pub turns_later : (session : ℕ) (whole part : List Entry) (lines : List ScriptLine) (turns : List Turn) → StartsWith whole part → calls_by caller_of session whole ≡ calls_by caller_of session part →
      AreTurnsIn w names part session lines turns → AreTurnsIn w names whole session lines turns
  turns_later session whole part lines turns s same are = record {
    calls = are.calls;
    placed = are.placed ∙ sym (same_later (λ rank e. (rank, e)) session part whole s same);
    each = All-weaker (IsTurnIn w names part) (IsTurnIn w names whole) (turn_later whole part s) turns are.each;
  }

  module _ (old new : Caller D A C) (call : Request) (rank : ℕ) (reply : Reply) (before_ready : IsReady w 0 old) (after_ready : IsReady w 0 new)
      (m : IsMade w names old.pass.me.0 new.pass.me.0 call rank reply) where
    pub same_number : new.number ≡ old.number
    same_number = sym after_ready.number ∙ (m.called.number ∙ before_ready.number)

    pub further : GoesFurther old.number old new
    further = record { before = m.before; entry = m.entry; since = m.called.goes_on.since; by = m.called.by ∙ before_ready.number; seen = m.called.placed }

    same_before : calls_by caller_of old.number m.before ≡ calls_by caller_of old.number (entries_of old.pass.me.0.seen)
    same_before = subst (λ k. calls_by caller_of k m.before ≡ old.pass.me.0.calls) before_ready.number m.called.goes_on.calls ∙ sym (own_calls old before_ready)

    one_more_call : calls_by caller_of old.number (entries_of new.pass.me.0.seen) ≡ calls_by caller_of old.number (entries_of old.pass.me.0.seen) ++ m.entry ∷ []
    one_more_call =
        subst (λ k. calls_by caller_of k (entries_of new.pass.me.0.seen) ≡ new.pass.me.0.calls) same_number (own_calls new after_ready)
        ∙ (m.called.calls ∙ ap (λ l. l ++ m.entry ∷ []) (sym (own_calls old before_ready)))

    -- the turn of the call
    abbrev pub turn : Turn
    turn = record { entry = m.entry; rank = rank; reply = reply }

    more_of : {X : Type 0} (at : ℕ → Entry → X) → of_calls at new.number 0 (entries_of new.pass.me.0.seen) ≡ of_calls at old.number 0 (entries_of old.pass.me.0.seen) ++ at (length m.before) m.entry ∷ []
    more_of at =
        ap (λ k. of_calls at k 0 (entries_of new.pass.me.0.seen)) same_number
        ∙ one_more_of at old.number (entries_of old.pass.me.0.seen) m.before (entries_of new.pass.me.0.seen) m.entry m.called.goes_on.since same_before (m.called.by ∙ before_ready.number) m.called.placed one_more_call

    -- a session's turns are one more, of the call of one more line
    turns_more : (lines : List ScriptLine) (line : ScriptLine) (turns : List Turn) → AreTurnsIn w names (entries_of old.pass.me.0.seen) old.number lines turns → line.session ≡ old.number →
        call ≡ asked names line.session (request_of (map (λ t. id_given t.reply.output) turns) line.call) → AreTurnsIn w names (entries_of new.pass.me.0.seen) new.number (lines ++ line ∷ []) (turns ++ turn ∷ [])
    turns_more lines line turns are own asks =
        let v : List Entry = entries_of old.pass.me.0.seen in let u : List Entry = entries_of new.pass.me.0.seen in record {
          calls = calls_more names [] lines turns line turn are.calls (m.called.by ∙ (before_ready.number ∙ sym own)) (m.called.call_is ∙ asks);
          placed = map-append ranked_call turns (turn ∷ [])
              ∙ (ap₂ (λ ps k. ps ++ (k, m.entry) ∷ []) are.placed m.called.rank ∙ sym (more_of (λ k e. (k, e))));
          each = All-push (IsTurnIn w names u) turns turn (All-weaker (IsTurnIn w names v) (IsTurnIn w names u) (turn_later u v (begins_since v m.before u m.entry m.called.goes_on.since m.called.placed)) turns are.each)
              (record { before = m.before; placed = m.called.placed; rank = m.called.rank; reply = m.reply_is });
        }

    -- a caller has made the call of one more line of its session
    pub made_more : (lines : List ScriptLine) (line : ScriptLine) (h : HasMade w names lines old) → new.spent ≤ old.spent + 2 → line.session ≡ old.number →
        call ≡ asked names line.session (request_of (map (λ t. id_given t.reply.output) h.turns) line.call) → HasMade w names (lines ++ line ∷ []) new
    made_more lines line h spent own asks = record {
      ready = after_ready;
      spent = let a = h.spent in let b = length-append lines (line ∷ []) in omega arith;
      turns = h.turns ++ turn ∷ [];
      made = subst (λ ls. AreTurnsIn w names (entries_of new.pass.me.0.seen) new.number ls (h.turns ++ turn ∷ []))
          (sym (ap (λ n. lines_of n (lines ++ line ∷ [])) same_number ∙ lines_more old.number lines line own)) (turns_more (lines_of old.number lines) line h.turns h.made own asks);
    }

    -- the line that is noted is that of the turn
    is_printed : (kept : Replies) (turns : List Turn) (replied : List ReplyLine) → replied ≡ numbered 1 turns → kept.session ≡ old.number → kept.count ≡ length replied →
        replied ++ next_line kept rank reply.status (output_bytes reply.output) ∷ [] ≡ numbered 1 (turns ++ turn ∷ [])
    is_printed kept turns replied is session count =
        let number : kept.count + 1 ≡ 1 + length turns = (let a = ap length is ∙ numbered_length 1 turns in omega (arith, a, count)) in
        let line : next_line kept rank reply.status (output_bytes reply.output) ≡ printed (1 + length turns) turn =
        (λ i. record { session = (session ∙ sym (m.called.by ∙ before_ready.number)) i; number = number i; rank = rank; status = reply.status; bytes = output_bytes reply.output }) in
        ap₂ (λ ls l. ls ++ l ∷ []) is line ∙ sym (numbered_more 1 turns turn)

  -- and its session has the reply
  pub answered_more : (lines : List ScriptLine) (line : ScriptLine) (old new : Session D A C) (rank : ℕ) (reply : Reply) → HasAnswered w names lines old → IsReady w 0 new.caller → new.caller.spent ≤ old.caller.spent + 2 →
      line.session ≡ old.caller.number → IsMade w names old.caller.pass.me.0 new.caller.pass.me.0 (asked names line.session (request_of old.given.items line.call)) rank reply →
      NotesLine old.replies new.replies rank reply.status (output_bytes reply.output) → new.replies.session ≡ old.replies.session →
      new.given.items ≡ old.given.items ++ id_given reply.output ∷ [] → HasAnswered w names (lines ++ line ∷ []) new
  unfolding made_more
  answered_more lines line old new rank reply h ready spent own m notes same_session given =
      let call : Request = asked names line.session (request_of old.given.items line.call) in
      let was = h.replies.replies.made in
      let turns : List Turn = was.turns in
      let replied : List ReplyLine = h.replies.replied in
      let same : new.caller.number ≡ old.caller.number = same_number old.caller new.caller call rank reply was.ready ready m in
      record {
        replies = record {
          replied = replied ++ next_line old.replies rank reply.status (output_bytes reply.output) ∷ [];
          kept = notes replied h.replies.kept;
          session = same_session ∙ (h.replies.session ∙ sym same);
          replies = record {
            made = made_more old.caller new.caller call rank reply was.ready ready m lines line was spent own (ap (λ ids. asked names line.session (request_of ids line.call)) h.given);
            printed = is_printed old.caller new.caller call rank reply was.ready ready m old.replies turns replied h.replies.replies.printed h.replies.session h.replies.kept.count;
          };
        };
        given = given ∙ (ap (λ ids. ids ++ id_given reply.output ∷ []) h.given ∙ sym (map-append (λ (t : Turn). id_given t.reply.output) turns (turn old.caller new.caller call rank reply was.ready ready m ∷ [])));
      }

  -- A LINE OF ANOTHER SESSION

  pub made_other : (lines : List ScriptLine) (line : ScriptLine) (c : Caller D A C) → line.session ≢ c.number → HasMade w names lines c → HasMade w names (lines ++ line ∷ []) c
  made_other lines line c other h = record {
    ready = h.ready;
    spent = let a = h.spent in let b = length-append lines (line ∷ []) in omega arith;
    turns = h.turns;
    made = subst (λ ls. AreTurnsIn w names (entries_of c.pass.me.0.seen) c.number ls h.turns) (sym (lines_same c.number lines line other)) h.made;
  }

  pub answered_other : (lines : List ScriptLine) (line : ScriptLine) (s : Session D A C) → line.session ≢ s.caller.number → HasAnswered w names lines s → HasAnswered w names (lines ++ line ∷ []) s
  unfolding made_other
  answered_other lines line s other h = record {
    replies = record {
      replied = h.replies.replied;
      kept = h.replies.kept;
      session = h.replies.session;
      replies = record { made = made_other lines line s.caller other h.replies.replies.made; printed = h.replies.replies.printed };
    };
    given = h.given;
  }
