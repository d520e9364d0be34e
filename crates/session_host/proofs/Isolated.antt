-- The reply lines of an owner's sessions are decided by the answers to that owner's callers.
use Rattle.session_host.proofs.Common.{All, AreCalls, AreNumbered, AreTurnsIn, Bool, Entry, IsOfSession, IsStartOf, List, Names, None, Owned, ReplyLine, ScriptLine, Service, Status, ToldBy, Turn, Unowned, World, [], DataCorrupt, HardwareFailure, StorageFailure, ap, arith, cond, leb_tells, eqb_tells, failure_of, failure_told, false, filter, get_or, id_given, inl, inr, is_of_fault, is_some, lines_of, limits_by, map, nat_tests, numbered, outcome_of, output_bytes, refl, replies_to, request_of, suc, subst, sym, told, true, turns_from, turns_of, zero, ℕ, ◌++◌, ◌+◌, ◌-◌, ◌<◌, ◌==◌, ◌∙◌, ◌∷◌, ◌≡◌, ◌≤◌, ◌⊎◌}
use Rattle.std.specs.List.{AllByRecursion}
use Rattle.std.proofs.lemmas.List.Elements.{recursion_from_All}
use Rattle.store_model.specs.Prelude.{IsSoundStore, start_of, service_of}
use Rattle.store_model.specs.declared.limits.Limits.TheVariants.{PerRange}
use Rattle.owner_space.specs.Owners.{Owners, owner_count, owners_in, request_inside}
use Rattle.owner_space.specs.Isolation.{Answered, IsOwnersCall, TellsNoFault, answered_from, answered_to, calls_of, only}
use Rattle.owner_space.proofs.Isolation.{owners_isolated}
use Rattle.session_host.specs.Isolated.{AreIsolated, TellsNoFailure, lines_alone, unranked_lines}
use Rattle.script_lang.specs.Prelude.{without_rank}
use Rattle.session_host.proofs.Replayed.{replayed}

-- WHAT HOLDS OF EACH SESSION'S TURNS HOLDS OF ALL

rest_all : (P : Turn → Type 0) (b : Bool) (t : Turn) (ts : List Turn) → AllByRecursion P (cond b (t ∷ ts) ts) → AllByRecursion P ts
rest_all P true t ts all = all.1
rest_all P false t ts all = all

first_all : (P : Turn → Type 0) (b : Bool) (t : Turn) (ts : List Turn) → b ≡ true → AllByRecursion P (cond b (t ∷ ts) ts) → P t
first_all P true t ts e all = all.0
first_all P false t ts e all = cc

same_number : (n : ℕ) (b : Bool) → (n == n) ≡ b → b ≡ true
same_number n true t = refl
same_number n false t = grind (arith, nat_tests)

by_sessions : (P : Turn → Type 0) (ts : List Turn) → ((session : ℕ) → AllByRecursion P (turns_of session ts)) → AllByRecursion P ts
by_sessions P [] all = tt
by_sessions P (t ∷ ts) all = (
  first_all P (t.entry.caller == t.entry.caller) t _ (same_number t.entry.caller (t.entry.caller == t.entry.caller) refl) (all t.entry.caller),
  by_sessions P ts (λ session. rest_all P (t.entry.caller == session) t _ (all session)),
)

kept_lines : (session : ℕ) (lines : List ScriptLine) → AllByRecursion IsOfSession lines → AllByRecursion IsOfSession (lines_of session lines)
kept_lines session [] all = tt
kept_lines session (line ∷ lines) all = of (line.session == session) (kept_lines session lines all.1)
  where
    of : (b : Bool) → AllByRecursion IsOfSession (lines_of session lines) → AllByRecursion IsOfSession (cond b (line ∷ lines_of session lines) (lines_of session lines))
    of true rest = (all.0, rest)
    of false rest = rest

-- THE CALLS ARE OWNERS' CALLS

module _ (owners : List ℕ) (inside : (caller : ℕ) → owners_in owners caller < owner_count) where
  abbrev IsOwners : Turn → Type 0
  IsOwners t = IsOwnersCall (owners_in owners) t.entry

  of_lines : (ids : List ℕ) (lines : List ScriptLine) (ts : List Turn) → AllByRecursion IsOfSession lines → AreCalls (Owned owners) ids lines ts → AllByRecursion IsOwners ts
  of_lines ids [] [] all are = tt
  of_lines ids [] (t ∷ ts) all are = absurd are
  of_lines ids (line ∷ lines) [] all are = absurd are
  of_lines ids (line ∷ lines) (t ∷ ts) all are = (
    record {
      caller = (subst (λ n. 1 ≤ n) (sym are.0) all.0.0, subst (λ n. n ≤ 16) (sym are.0) all.0.1);
      owner = inside t.entry.caller;
      named = request_of ids line.call;
      inner = subst (λ n. t.entry.call ≡ request_inside (owners_in owners) n (request_of ids line.call)) (sym are.0) are.1;
    },
    of_lines (ids ++ id_given t.reply.output ∷ []) lines ts all.1 are.2,
  )

  entries_all : (rank : ℕ) (service : Service) (h : List Entry) → AllByRecursion IsOwners (turns_from (Owned owners) rank service h) → AllByRecursion (IsOwnersCall (owners_in owners)) h
  entries_all rank service [] all = tt
  entries_all rank service (e ∷ es) all = (all.0, entries_all (rank + 1) (outcome_of service e).service es all.1)

-- NO REPLY TELLS OF A FAILURE

no_fault : (status : Status) → failure_told status ≡ None → is_of_fault status ≡ false
no_fault status e = by status e
  where
    by : (status : Status) → failure_told status ≡ None → is_of_fault status ≡ false
    by StorageFailure e = cc
    by HardwareFailure e = cc
    by DataCorrupt e = cc
    by _ e = refl

abbrev TurnTellsNoFault : Turn → Type 0
TurnTellsNoFault t = is_of_fault t.reply.status ≡ false

lines_tell_none : (number : ℕ) (ts : List Turn) → AllByRecursion TellsNoFailure (numbered number ts) → AllByRecursion TurnTellsNoFault ts
lines_tell_none number [] all = tt
lines_tell_none number (t ∷ ts) all = (no_fault t.reply.status all.0, lines_tell_none (number + 1) ts all.1)

faults_all : (owners : List ℕ) (rank : ℕ) (service : Service) (h : List Entry) → AllByRecursion TurnTellsNoFault (turns_from (Owned owners) rank service h) → AllByRecursion TellsNoFault (answered_from service h)
faults_all owners rank service [] all = tt
faults_all owners rank service (e ∷ es) all = (all.0, faults_all owners (rank + 1) (outcome_of service e).service es all.1)

split_all : (P : ReplyLine → Type 0) (xs ys : List ReplyLine) → AllByRecursion P (xs ++ ys) → AllByRecursion P xs × AllByRecursion P ys
split_all P [] ys all = (tt, all)
split_all P (x ∷ xs) ys all = let rest = split_all P xs ys all.1 in ((all.0, rest.0), rest.1)

-- the lines of one of the sessions 1 to n
session_all : (P : ReplyLine → Type 0) (turns : ℕ → List Turn) (n session : ℕ) → 1 ≤ session → session ≤ n → AllByRecursion P (replies_to n turns) → AllByRecursion P (numbered 1 (turns session))
session_all P turns zero session low high all = absurd (omega arith)
session_all P turns (suc n) session low high all =
    let parts = split_all P (replies_to n turns) (numbered 1 (turns (suc n))) all in
    elim (eqb_tells session (suc n)) [
      | inl same ↦ subst (λ s. AllByRecursion P (numbered 1 (turns s))) (sym same.1) parts.1
      | inr other ↦ session_all P turns n session low (let o = other.1 in omega arith) parts.0
    ]

-- LINES BY ANSWERS

module _ (names : Names) where
  abbrev answer_of : Turn → Answered
  answer_of t = record { entry = t.entry; reply = t.reply }

  -- an answer as its caller is told it
  abbrev told_answer : Answered → Answered
  told_answer a = record { entry = a.entry; reply = told names a.reply }

  answers : (rank : ℕ) (service : Service) (h : List Entry) → map answer_of (turns_from names rank service h) ≡ map told_answer (answered_from service h)
  answers rank service [] = refl
  answers rank service (e ∷ es) = ap (λ l. told_answer (record { entry = e; reply = (outcome_of service e).reply }) ∷ l) (answers (rank + 1) (outcome_of service e).service es)

  abbrev line_of : ℕ → Answered → ReplyLine
  line_of number a = record { session = a.entry.caller; number = number; rank = 0; status = a.reply.status; bytes = output_bytes a.reply.output }

  abbrev lines_from : ℕ → List Answered → List ReplyLine
  lines_from number [] = []
  lines_from number (a ∷ rest) = line_of number a ∷ lines_from (number + 1) rest

  abbrev to_session : ℕ → List Answered → List Answered
  to_session session = filter (λ a. a.entry.caller == session)

  printed_by : (number : ℕ) (ts : List Turn) → map without_rank (numbered number ts) ≡ lines_from number (map answer_of ts)
  printed_by number [] = refl
  printed_by number (t ∷ ts) = ap (λ l. line_of number (answer_of t) ∷ l) (printed_by (number + 1) ts)

  of_session : (session : ℕ) (ts : List Turn) → map answer_of (turns_of session ts) ≡ to_session session (map answer_of ts)
  of_session session [] = refl
  of_session session (t ∷ ts) = of (t.entry.caller == session) (of_session session ts)
    where
      of : (b : Bool) → map answer_of (turns_of session ts) ≡ to_session session (map answer_of ts) →
          map answer_of (cond b (t ∷ turns_of session ts) (turns_of session ts)) ≡ cond b (answer_of t ∷ to_session session (map answer_of ts)) (to_session session (map answer_of ts))
      of true rest = ap (λ l. answer_of t ∷ l) rest
      of false rest = rest

  told_session : (session : ℕ) (l : List Answered) → to_session session (map told_answer l) ≡ map told_answer (to_session session l)
  told_session session [] = refl
  told_session session (a ∷ l) = of (a.entry.caller == session) (told_session session l)
    where
      of : (b : Bool) → to_session session (map told_answer l) ≡ map told_answer (to_session session l) →
          cond b (told_answer a ∷ to_session session (map told_answer l)) (to_session session (map told_answer l)) ≡ map told_answer (cond b (a ∷ to_session session l) (to_session session l))
      of true rest = ap (λ k. told_answer a ∷ k) rest
      of false rest = rest

  printed_answers : (session : ℕ) (service : Service) (h : List Entry) →
      unranked_lines (turns_of session (turns_from names 0 service h)) ≡ lines_from 1 (map told_answer (to_session session (answered_from service h)))
  printed_answers session service h =
      printed_by 1 (turns_of session (turns_from names 0 service h))
      ∙ (ap (lines_from 1) (of_session session (turns_from names 0 service h))
      ∙ (ap (λ l. lines_from 1 (to_session session l)) (answers 0 service h)
      ∙ ap (lines_from 1) (told_session session (answered_from service h))))

-- an owner's session is answered among the owner's answers
own_session : (owners : Owners) (owner session : ℕ) → owners session ≡ owner → (l : List Answered) → filter (λ a. a.entry.caller == session) (answered_to owners owner l) ≡ filter (λ a. a.entry.caller == session) l
own_session owners owner session is [] = refl
own_session owners owner session is (a ∷ l) = of (owners a.entry.caller == owner) (a.entry.caller == session) refl refl (own_session owners owner session is l)
  where
    own : List Answered → List Answered
    own = filter (λ a. a.entry.caller == session)

    belongs : (owners a.entry.caller == owner) ≡ false → (a.entry.caller == session) ≡ true → ⊥
    belongs t u =
        let same : a.entry.caller ≡ session = of_test a.entry.caller session u in
        other (owners a.entry.caller) owner (ap owners same ∙ is) t
      where
        of_test : (x y : ℕ) → (x == y) ≡ true → x ≡ y
        of_test x y t = grind (arith, nat_tests)

        other : (x y : ℕ) → x ≡ y → (x == y) ≡ false → ⊥
        other x y e t = grind (arith, nat_tests)

    of : (b c : Bool) → (owners a.entry.caller == owner) ≡ b → (a.entry.caller == session) ≡ c →
        filter (λ a. a.entry.caller == session) (answered_to owners owner l) ≡ filter (λ a. a.entry.caller == session) l →
        filter (λ a. a.entry.caller == session) (cond b (a ∷ answered_to owners owner l) (answered_to owners owner l)) ≡ cond c (a ∷ filter (λ a. a.entry.caller == session) l) (filter (λ a. a.entry.caller == session) l)
    of true true t u rest = ap (λ b. cond b (a ∷ filter (λ a. a.entry.caller == session) (answered_to owners owner l)) (filter (λ a. a.entry.caller == session) (answered_to owners owner l))) u ∙ ap (λ k. a ∷ k) rest
    of true false t u rest = ap (λ b. cond b (a ∷ filter (λ a. a.entry.caller == session) (answered_to owners owner l)) (filter (λ a. a.entry.caller == session) (answered_to owners owner l))) u ∙ rest
    of false true t u rest = absurd (belongs t u)
    of false false t u rest = rest

-- owners are below 16, for callers without one too
owner_inside : (owners : List ℕ) → All (λ owner. owner < owner_count) owners → (caller : ℕ) → owners_in owners caller < owner_count
owner_inside owners all caller = at owners (caller - 1) (recursion_from_All (λ owner. owner < owner_count) owners all)
  where
    at : (xs : List ℕ) (i : ℕ) → AllByRecursion (λ owner. owner < owner_count) xs → get_or xs i 0 < owner_count
    at [] i all = omega arith
    at (x ∷ xs) zero all = all.0
    at (x ∷ xs) (suc i) all = at xs i all.1

-- no line is of a session outside 1 to 16
no_lines : (session : ℕ) (lines : List ScriptLine) → (1 ≤ session → session ≤ 16 → ⊥) → AllByRecursion IsOfSession lines → lines_of session lines ≡ []
no_lines session [] other all = refl
no_lines session (line ∷ lines) other all = of (line.session == session) refl (no_lines session lines other all.1)
  where
    of : (b : Bool) → (line.session == session) ≡ b → lines_of session lines ≡ [] → cond b (line ∷ lines_of session lines) (lines_of session lines) ≡ []
    of true t rest = absurd (other (low all.0.0 (same t)) (high all.0.1 (same t)))
      where
        same : (line.session == session) ≡ true → line.session ≡ session
        same t = grind (arith, nat_tests)

        low : 1 ≤ line.session → line.session ≡ session → 1 ≤ session
        low h e = omega (arith, h, e)

        high : line.session ≤ 16 → line.session ≡ session → session ≤ 16
        high h e = omega (arith, h, e)
    of false t rest = rest

no_turns_of : (names : Names) (ids : List ℕ) (lines : List ScriptLine) (ts : List Turn) → lines ≡ [] → AreCalls names ids lines ts → ts ≡ []
no_turns_of names ids [] [] e are = refl
no_turns_of names ids [] (t ∷ ts) e are = absurd are
no_turns_of names ids (l ∷ lines) ts e are = cc

module _ {D A C : Type 0} (w : World D A C) (owners : List ℕ) (lines : List ScriptLine) (history : List Entry) (replies : List ReplyLine) (turns : ℕ → List Turn)
    (sound : (start : Service) → IsStartOf w start → IsSoundStore start.store) (limits : w.opened.limits.value ≡ PerRange) (owned : All (λ owner. owner < owner_count) owners)
    (sessions : All IsOfSession lines) (own : (session : ℕ) → AreTurnsIn w (Owned owners) history session (lines_of session lines) (turns session))
    (printed : replies ≡ replies_to 16 turns)
    (start : Service) (is : IsStartOf w start) (known : ToldBy w start history) (tells : is_some (w.devices.keys w.opened.devices.value) ≡ true) (plain : All TellsNoFailure replies) where
  abbrev names : Names
  names = Owned owners

  abbrev all : List Turn
  all = turns_from names 0 start history

  of_replay : (session : ℕ) → AreCalls names [] (lines_of session lines) (turns_of session all) × (numbered 1 (turns session) ≡ numbered 1 (turns_of session all))
  of_replay session = replayed w names start is history known tells session (lines_of session lines) (turns session) (own session)

  sessions_each : AllByRecursion IsOfSession lines
  sessions_each = recursion_from_All IsOfSession lines sessions

  session_tells_none : (session : ℕ) → AllByRecursion TurnTellsNoFault (turns_of session all)
  session_tells_none session = elim (within session) [
    | inl inside ↦ lines_tell_none 1 (turns_of session all) (subst (AllByRecursion TellsNoFailure) (of_replay session).1
        (session_all TellsNoFailure turns 16 session inside.0 inside.1 (recursion_from_All TellsNoFailure (replies_to 16 turns) (subst (All TellsNoFailure) printed plain))))
    | inr outside ↦ subst (AllByRecursion TurnTellsNoFault) (sym (no_turns_of names [] (lines_of session lines) (turns_of session all) (no_lines session lines outside sessions_each) (of_replay session).0)) tt
  ]
    where
      within : (session : ℕ) → ((1 ≤ session) × (session ≤ 16)) ⊎ (1 ≤ session → session ≤ 16 → ⊥)
      within zero = inr (λ low high. omega arith)
      within (suc n) = elim (leb_tells (suc n) 16) [
        | inl le ↦ inl (omega arith, le.1)
        | inr gt ↦ inr (λ low high. let g = gt.1 in omega arith)
      ]

  pub lines_isolated : (session : ℕ) → unranked_lines (turns session) ≡ lines_alone owners session start history
  lines_isolated session =
      let inside = owner_inside owners owned in let owner : ℕ = owners_in owners session in
      let same_start : service_of (start_of is.settings is.found) ≡ start = sym is.is in
      let sound_start : IsSoundStore (start_of is.settings is.found) = subst (λ (s : Service). IsSoundStore s.store) is.is (sound start is) in
      let calls = entries_all owners inside 0 start history (by_sessions (IsOwners owners inside) all (λ s. of_lines owners inside [] (lines_of s lines) (turns_of s all) (kept_lines s lines sessions_each) (of_replay s).0)) in
      let none = subst (λ s. AllByRecursion TellsNoFault (answered_from s history)) (sym same_start) (faults_all owners 0 start history (by_sessions TurnTellsNoFault all session_tells_none)) in
      let apart = owners_isolated is.settings is.found (owners_in owners) owner history (is.limits_are ∙ limits) sound_start calls none in
      let alone : answered_to (owners_in owners) owner (answered_from start history) ≡ answered_from (service_of (only owner start.store)) (calls_of (owners_in owners) owner history) =
      ap (λ s. answered_to (owners_in owners) owner (answered_from s history)) (sym same_start) ∙ (apart ∙ ap (λ (s : Service). answered_from (service_of (only owner s.store)) (calls_of (owners_in owners) owner history)) same_start) in
      ap (map without_rank) (of_replay session).1
      ∙ (printed_answers names session start history
      ∙ (ap (λ l. lines_from names 1 (map (told_answer names) l)) (sym (own_session (owners_in owners) owner session refl (answered_from start history)))
      ∙ (ap (λ l. lines_from names 1 (map (told_answer names) (to_session names session l))) alone
      ∙ sym (printed_answers names session (service_of (only owner start.store)) (calls_of (owners_in owners) owner history)))))

pub isolated : {D A C : Type 0} (w : World D A C) (names : Names) (lines : List ScriptLine) (history : List Entry) (replies : List ReplyLine) (turns : ℕ → List Turn) →
    ((start : Service) → IsStartOf w start → IsSoundStore start.store) → w.opened.limits.value ≡ limits_by names → AreNumbered names → All IsOfSession lines →
    ((session : ℕ) → AreTurnsIn w names history session (lines_of session lines) (turns session)) → replies ≡ replies_to 16 turns → AreIsolated w names history turns replies
isolated w Unowned lines history replies turns sound limits owned sessions own printed = λ owners start is_owned is known tells plain session. cc
isolated w (Owned list) lines history replies turns sound limits owned sessions own printed = λ owners start is_owned is known tells plain session.
    let same : list ≡ owners = cc in
    subst (λ owners. unranked_lines (turns session) ≡ lines_alone owners session start history) same
    (lines_isolated w list lines history replies turns sound limits owned sessions own printed start is known tells plain session)
