-- What is known of the one-thread service at a caller's entry, and the caller after the call.
use Rattle.callers.proofs.Common.{After, All, AnswersReply, AreOperations, ArePairs, Caller, Entry, FaultMark, GoesOn, HandleOperation, Held, IsAnswered, IsAt, IsCalled, IsClear, IsOwnPart, IsReady, IsReplied, IsSound, KnowsBefore, KnowsReply, KnowsTold, Legal, List, Output, Request, Result, Served, Service, Settings, Status, TURNS, TellsFailure, World, [], ap, applied, arith, buffer_after, busy, entries_of, known_more, leases_of, leaves_settings, length, next_bytes, next_random, outcome_of, own_of, own_reply, random_bytes, refl, replay, serve, start_of, subst, sym, vec_capacity, with_operation_at, words_used, ℕ, ◌*◌, ◌++◌, ◌+◌, ◌^◌, ◌∙◌, ◌∷◌, ◌≡◌, ◌≤◌, IsStartOf, ToldBy}
use Rattle.callers.proofs.{Journeys.own_after, Journeys.own_on, Journeys.told_front, Owned.applied_own, Owned.sound_replay}

pub outcome_is : (service : Service) (e : Entry) (n : ℕ) (request : Request) (mark : FaultMark) → e.caller ≡ n → e.call ≡ request → e.mark ≡ mark → outcome_of service e ≡ serve service n request mark
outcome_is service e n request mark by called marked = λ i. serve service (by i) (called i) (marked i)

pub settings_stay : (service : Service) (h : List Entry) → (replay service h).store.settings ≡ service.store.settings
settings_stay service [] = refl
settings_stay service (e ∷ h) = settings_stay (outcome_of service e).service h ∙ (leaves_settings service e.caller e.call e.mark).0

module _ {D A C : Type 0} (w : World D A C) where
  abbrev Ready : ℕ → Caller D A C → Type 0
  Ready = IsReady w

  abbrev Knows : (Service → Type 0) → List Entry → Entry → Type 0
  Knows = KnowsTold w

  -- the service before the caller's entry has what the caller has of its own
  pub record IsKnown (old : Caller D A C) (operations : List HandleOperation) (service : Service) : Type 0 where
    pub sound : IsSound service
    pub own : IsOwnPart operations old.stream.place (own_of service old.number)
    pub random : (count : ℕ) → next_random service old.number count ≡ next_bytes old.stream count

  -- in a history that goes on the service has what the caller has of its own
  pub own_there : (n : ℕ) (old : Caller D A C) (r : Ready n old) (start : Service) (h : List Entry) → IsStartOf w start → GoesOn old.pass.me.0 h → ToldBy w start h → IsOwnPart r.operations old.stream.place (own_of (replay start h) old.number)
  own_there n old r start h is on tells =
      let here : ToldBy w start (entries_of old.pass.me.0.seen) = told_front (w.disk.contents w.opened.file.value.cells.disk) start h (entries_of old.pass.me.0.seen) on.since tells in
      let mine = own_on old.pass.me.0 start h on (r.at.calls (let z = r.at.first in omega arith)) in
      let own : own_of (replay start h) old.number ≡ own_of (replay start (entries_of old.pass.me.0.seen)) old.number =
      ap (own_of (replay start h)) (sym r.number) ∙ (mine ∙ ap (own_of (replay start (entries_of old.pass.me.0.seen))) r.number) in
      subst (IsOwnPart r.operations old.stream.place) (sym own) (r.own start is here)

  -- and draws the same random words
  pub random_there : (n : ℕ) (old : Caller D A C) (r : Ready n old) (start : Service) (h : List Entry) → IsStartOf w start → GoesOn old.pass.me.0 h → ToldBy w start h → (count : ℕ) → next_random (replay start h) old.number count ≡ next_bytes old.stream count
  random_there n old r start h is on tells count =
      let seed : (replay start h).store.settings.seed ≡ old.stream.seed =
      ap (λ (s : Settings). s.seed) (settings_stay start h) ∙ (ap (λ (s : Service). s.store.settings.seed) is.is ∙ (is.seed_is ∙ sym r.seed)) in
      let own = own_there n old r start h is on tells in
      λ i. random_bytes (seed i) (sym r.stream_of i) (own.drawn i) count

  module _ (n : ℕ) (old new : Caller D A C) (r : Ready n old) (turns : ℕ) (call : Request) (mark : FaultMark) (rank : ℕ) (before : List Entry) (e : Entry)
      (c : IsCalled old.pass.me.0 new.pass.me.0 turns call mark rank before e) where
    pub known : Knows (IsKnown old r.operations) before e
    known start is tells =
        let store = start_of is.settings is.found in
        let here : ToldBy w start before = told_front (w.disk.contents w.opened.file.value.cells.disk) start (before ++ e ∷ []) before (e ∷ [], refl) tells in
        record {
          sound = sound_replay start store before is.is (r.sound start is) c.goes_on.signed;
          own = own_there n old r start before is c.goes_on here;
          random = random_there n old r start before is c.goes_on here;
        }

    -- what is answered
    pub answered : (result : Result Output Status) (shown given : List ℕ) → TellsFailure w result mark → KnowsReply w (IsReplied result shown given) before e →
        IsAnswered w old.pass.me.0 new.pass.me.0 call rank result shown given
    answered result shown given failure replied = record {
      turns = turns;
      mark = mark;
      before = before;
      entry = e;
      called = c;
      failure = failure;
      replied = replied;
    }

    -- by a call on a handle that replies as this does
    pub applied_answered : (after : After Held) → KnowsBefore w (λ service. (outcome_of service e).reply ≡ after.reply) before e → (result : Result Output Status) (shown given : List ℕ) → TellsFailure w result mark →
        AnswersReply result after.reply → given ≡ buffer_after shown after.reply → IsAnswered w old.pass.me.0 new.pass.me.0 call rank result shown given
    applied_answered after replies result shown given failure answers buffer =
        answered result shown given failure (own_reply w (IsReplied result shown given) (known_more (λ service same. (subst (AnswersReply result) (sym same) answers, buffer ∙ ap (buffer_after shown) (sym same))) replies))

    -- what a call changes of a caller beside its pass
    pub record IsMoved (changed : List HandleOperation) (slack : ℕ) : Type 0 where
      pub number : new.number ≡ old.number
      pub stand : AreOperations new.handles.list.items changed
      pub own : Knows (λ service. IsOwnPart changed new.stream.place (own_of (outcome_of service e).service old.number)) before e
      pub leases : ArePairs new.pass.me.0.holding (leases_of new.handles.list.items)
      pub clear : All IsClear new.spares.items
      pub five : length (leases_of new.handles.list.items) + length new.spares.items ≡ 5
      pub room : 5 ≤ vec_capacity new.spares
      pub seed : new.stream.seed ≡ old.stream.seed
      pub stream_of : new.stream.caller ≡ old.stream.caller
      pub turns_are : TURNS + 2 * busy changed + slack ≤ new.pass.me.0.turns_left + 4 * new.spent
      pub words : new.stream.place + 64 * slack ≤ 256 * new.spent
      pub spent : new.spent ≤ 2 ^ 48

    pub ready : (changed : List HandleOperation) (slack : ℕ) → IsAt w new.pass → Legal w (entries_of new.pass.me.0.seen) → IsMoved changed slack → Ready slack new
    ready changed slack at legal m =
        let number : new.pass.me.0.number ≡ new.number = c.number ∙ (r.number ∙ sym m.number) in record {
          at = at;
          number = number;
          last = let z = r.last in let y = m.number in omega arith;
          one = c.weight ∙ r.one;
          legal = legal;
          sound = r.sound;
          operations = changed;
          stand = m.stand;
          own = λ start is tells.
              let front = told_front (w.disk.contents w.opened.file.value.cells.disk) start (entries_of new.pass.me.0.seen) (before ++ e ∷ []) c.placed tells in
              let after = own_after old.pass.me.0 new.pass.me.0 turns call mark rank before e c start (at.calls (let z = at.first in omega arith)) in
              let own : own_of (replay start (entries_of new.pass.me.0.seen)) new.number ≡ own_of (outcome_of (replay start before) e).service old.number =
              ap (own_of (replay start (entries_of new.pass.me.0.seen))) (sym number) ∙ (after ∙ ap (own_of (outcome_of (replay start before) e).service) (number ∙ m.number)) in
              subst (IsOwnPart changed new.stream.place) (sym own) (m.own start is front);
          leases = m.leases;
          clear = m.clear;
          five = m.five;
          room = m.room;
          seed = m.seed ∙ r.seed;
          stream_of = m.stream_of ∙ (r.stream_of ∙ sym m.number);
          turns = m.turns_are;
          words = m.words;
          spent = m.spent;
        }

    -- by a call on a handle, to which the one-thread service applies this
    module _ {handle : ℕ} (first : 1 ≤ handle) (last : handle ≤ 4) (after : After Held) (applies : Knows (λ service. outcome_of service e ≡ applied service old.number handle after) before e) where
      pub applied_there : new.stream.place ≡ old.stream.place + words_used after.drawn → Knows (λ service. IsOwnPart (with_operation_at r.operations handle after.operation) new.stream.place (own_of (outcome_of service e).service old.number)) before e
      applied_there place start is tells =
          let k = known start is tells in
          subst (λ (s : Served). IsOwnPart (with_operation_at r.operations handle after.operation) new.stream.place (own_of s.service old.number)) (sym (applies start is tells))
          (applied_own (replay start before) old.number handle after r.operations old.stream.place new.stream.place k.sound r.last k.own r.stand.count first last place)
