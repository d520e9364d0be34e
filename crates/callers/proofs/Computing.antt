-- A caller after a call in one part with a key.
use Rattle.callers.proofs.Common.{AnswersCall, AnswersReply, Bool, Caller, Computed, DecidesAfter, ElementCall, Entry, Err, HasDrawn, IsAnswered, IsAt, IsCalled, IsEntered, IsGivenBack, IsLent, IsOwnPart, IsReady, IsRefused, IsReplied, KeyId, KeyUse, KeyedCall, KnowsBefore, Legal, List, NotComputed, OnStore, Outcome, Output, Plain, RandomStream, Reading, Reply, Request, Result, Service, Status, World, ap, arith, bytes_of, computed_by, count_by, counted, drawn_by, drawn_from, draws_none, entries_of, false, few, has_vector, if◌then◌else◌, is_ok, known_more, known_told, lease_pair, length, mark_computed, mark_of, may_change_keys, model_call, model_keyed_call, model_request, names, next_bytes, next_random, own_of, refl, replay, step, subst, sym, takes_vector, true, use_refusal, wanted_by, with_computed, without_pair, words_used, ℕ, ◌&&◌, ◌+◌, ◌<◌, ◌∙◌, ◌∷◌, ◌≡◌, ◌≤◌}
use Rattle.std.specs.FinMap as map
use Rattle.store_core.specs.Prelude.{IsElementAnswered as IsOfElement}
use Rattle.service_calls.specs.{declared.call.Call.Call, declared.store_calls.Keyed.Keyed, declared.store_calls.StoreCall.TheVariants.Compute}
use Rattle.service_calls.specs.declared.call.Call.TheVariants.{OnStore as OnStoreCall}
use Rattle.store_model.specs.Prelude.{MayBeMarked}
use Rattle.callers.proofs.{ByElement.element_fits, ByElement.element_marked, ByElement.element_own, ByElement.may_reply, HandleLists.first_named, HandleLists.tally-cons, HandleLists.without}
use Rattle.callers.proofs.{Failing.AnswersAs, Failing.answers_plain, Failing.computed_plainly, Failing.element_tells, Failing.refused_tells, Failing.use_plainly, Journeys.called, Journeys.called_then, Looking.AreSpares, Looking.put_back}
use Rattle.callers.proofs.{Marked.read_marked, Owned.stored_own, Readying.answered, Readying.known, Storing.kept_answered, Storing.kept_ready, Supposed.at_store, Supposed.by_after, Supposed.quiet_leaves, WithKeys.IsLocal, WithKeys.IsRefusal, WithKeys.lent_step, WithKeys.reads_call, WithKeys.refusal_of}

-- the request, by the key that the computation names
pub asked_with : (call : Call) (asked : Keyed) (key : KeyId) (room : ℕ) → call ≡ OnStoreCall (Compute asked) → key ≡ asked.key → model_request call room ≡ OnStore (model_keyed_call asked.call key.0 room)
asked_with call asked key room is same = ap (λ c. model_request c room) is ∙ ap (λ (k : KeyId). OnStore (model_keyed_call asked.call k.0 room)) (sym same)

few_drawn : (b : Bool) → words_used (if b then 16 else 0) ≤ 256
few_drawn true = omega arith
few_drawn false = omega arith

module _ {D A C : Type 0} (w : World D A C) (old : Caller D A C) (r : IsReady w 4 old) (asked : KeyedCall) (id room : ℕ) (wanted : KeyUse) (uses : wanted ≡ wanted_by asked) (request : Request)
    (asks : request ≡ OnStore (model_keyed_call asked id room)) (rank : ℕ) (before : List Entry) (e : Entry) (quiet : may_change_keys e.call ≡ false) where
  -- THE KEY IS LENT: it is computed with, and the lease goes back
  module _ (looked settled new : Caller D A C) (lease : Reading) (i : IsEntered old.pass.me.0 looked.pass.me.0 request Plain rank (lease_pair lease ∷ old.pass.me.0.holding) before e)
      (decided : DecidesAfter w (λ m. IsLent (use_refusal wanted) id lease m × IsLocal asked id m) before e)
      (passed : settled.pass ≡ looked.pass) (back : IsGivenBack lease settled new) where
    made : IsCalled old.pass.me.0 new.pass.me.0 2 request Plain rank before e
    made = called_then old.pass.me.0 settled.pass.me.0 new.pass.me.0 1 request Plain rank (without_pair (lease_pair lease) settled.pass.me.0.holding) before e
        (subst (λ p. IsCalled old.pass.me.0 p.me.0 1 request Plain rank before e) (sym passed) (called i)) back.later

    -- so it is computed by a service that draws the caller's words, and has lent the key
    step_is : (service : Service) → ((count : ℕ) → next_random service old.number count ≡ next_bytes old.stream count) → IsLent (use_refusal wanted) id lease (counted service.store) × IsLocal asked id (counted service.store) →
        step service.store old.number (next_random service old.number) (model_keyed_call asked id room) ≡ with_computed service.store (computed_by asked (bytes_of lease.buffer) (next_bytes old.stream) room)
    step_is service random lent =
        lent_step asked id room wanted uses service.store old.number (next_random service old.number) lease lent.1 lent.0
        ∙ (λ j. with_computed service.store (computed_by asked (bytes_of lease.buffer) (λ n. random n j) room))

    lends : KnowsBefore w (λ service. step service.store old.number (next_random service old.number) (model_keyed_call asked id room)
        ≡ with_computed service.store (computed_by asked (bytes_of lease.buffer) (next_bytes old.stream) room)) before e
    lends = known_more (λ service s. step_is service s.0 s.1)
        (at_store w 4 old new r 2 request Plain rank before e made (by_after w (λ m. IsLent (use_refusal wanted) id lease m × IsLocal asked id m) (quiet_leaves w before e quiet) decided) (λ service p. tt))

    abbrev lent : Computed
    lent = computed_by asked (bytes_of lease.buffer) (next_bytes old.stream) room

    is_out : 0 < names lease.slot (lease.creation + 1) settled.pass.me.0.holding
    is_out = subst (λ own. 0 < names lease.slot (lease.creation + 1) own) (sym (ap (λ p. p.me.0.holding) passed ∙ i.holding)) (first_named (lease_pair lease) old.pass.me.0.holding)

    pub lent_ready : settled.number ≡ old.number → settled.spent ≡ old.spent → settled.handles ≡ old.handles → settled.stream ≡ drawn_from old.stream lent.drawn → AreSpares 1 old.spares settled.spares → IsAt w new.pass → Legal w (entries_of new.pass.me.0.seen) → IsReady w 0 new
    lent_ready number spent handles stream spares at legal =
        kept_ready w old new r 2 request (model_keyed_call asked id room) asks Plain rank before e made lent.drawn (let f = few asked (bytes_of lease.buffer) (next_bytes old.stream) room in omega arith) (omega arith) (record {
          number = back.number ∙ number;
          spent = back.spent ∙ spent;
          handles = back.handles ∙ handles;
          stream = back.stream ∙ stream;
          holding = λ f.
              let a = ap (count_by f) back.later.holding in let b = without f (lease_pair lease) settled.pass.me.0.holding is_out in
              let c = ap (λ p. count_by f p.me.0.holding) passed in let d = ap (count_by f) i.holding in let m = tally-cons f (lease_pair lease) old.pass.me.0.holding in omega arith;
          spares = put_back old.spares settled.spares new.spares spares back.clear back.spares back.room;
        }) at legal (λ start is tells.
        let service = replay start before in
        let k = known w 4 old new r 2 request Plain rank before e made start is tells in
        stored_own service old.number (step service.store old.number (next_random service old.number) (model_keyed_call asked id room)) r.operations old.stream.place new.stream.place k.sound r.last k.own
        (let a = ap (λ (s : RandomStream). s.place) (back.stream ∙ stream) in let b = ap (λ (o : Outcome). words_used o.drawn) (known_told lends start is tells) in omega arith))

    pub lent_answered : (result : Result Output Status) (shown given : List ℕ) → IsReplied result shown given lent.reply → IsAnswered w old.pass.me.0 new.pass.me.0 request rank result shown given
    lent_answered result shown given fits =
        kept_answered w old new r 2 request (model_keyed_call asked id room) asks Plain rank before e made result shown given
        (λ start is. answers_plain result lent.reply fits.0 (computed_plainly asked (bytes_of lease.buffer) (next_bytes old.stream) room))
        (known_more (λ service same. subst (IsReplied result shown given) (sym (ap (λ (o : Outcome). o.reply) same)) fits) lends)

  -- NO KEY IS LENT
  module _ (new : Caller D A C) (why : Status) (i : IsEntered old.pass.me.0 new.pass.me.0 request (mark_of why) rank old.pass.me.0.holding before e)
      (decided : DecidesAfter w (λ m. IsRefused (use_refusal wanted) id why m × IsLocal asked id m) before e) where
    abbrev turned : IsCalled old.pass.me.0 new.pass.me.0 1 request (mark_of why) rank before e
    turned = called i

    refuses : KnowsBefore w (λ service. IsRefusal service old.number (model_keyed_call asked id room) (mark_of why) why) before e
    refuses = known_more (λ service s. refusal_of asked id room wanted uses service old.number why s.1.1 s.1.0)
        (at_store w 4 old new r 1 request (mark_of why) rank before e turned (by_after w (λ m. IsRefused (use_refusal wanted) id why m × IsLocal asked id m) (quiet_leaves w before e quiet) decided)
        (λ service p. subst (λ q. MayBeMarked service old.number q (mark_of why)) (sym asks) (read_marked service old.number (OnStore (model_keyed_call asked id room)) (use_refusal wanted) id why (counted service.store) refl (reads_call service old.number asked id room) p.0)))

    pub refused_ready : new.number ≡ old.number → new.spent ≡ old.spent → new.handles ≡ old.handles → new.stream ≡ old.stream → AreSpares 0 old.spares new.spares → IsAt w new.pass → Legal w (entries_of new.pass.me.0.seen) → IsReady w 0 new
    refused_ready number spent handles stream spares at legal =
        kept_ready w old new r 1 request (model_keyed_call asked id room) asks (mark_of why) rank before e turned 0 (omega arith) (omega arith) (record {
          number = number;
          spent = spent;
          handles = handles;
          stream = stream ∙ draws_none old.stream;
          holding = λ f. ap (count_by f) i.holding;
          spares = spares;
        }) at legal (λ start is tells.
        let service = replay start before in
        let k = known w 4 old new r 1 request (mark_of why) rank before e turned start is tells in
        (known_told refuses start is tells).own r.operations new.stream.place k.sound r.last (subst (λ s. IsOwnPart r.operations s.place (own_of service old.number)) (sym stream) k.own))

    pub refused_answered : (shown given : List ℕ) → given ≡ shown → IsAnswered w old.pass.me.0 new.pass.me.0 request rank (Err why) shown given
    refused_answered shown given left =
        kept_answered w old new r 1 request (model_keyed_call asked id room) asks (mark_of why) rank before e turned (Err why) shown given
        (λ start is. let d = decided start is in refused_tells (use_refusal wanted) (use_plainly wanted) id why d.model d.holds.0)
        (known_more (λ service refusal. (refusal.gives.answers, left ∙ refusal.gives.unwritten shown)) refuses)

-- THE SECURE ELEMENT HAS THE KEY, and has computed, or refused or failed to
module _ {D A C : Type 0} (w : World D A C) (old new : Caller D A C) (r : IsReady w 4 old) (asked : KeyedCall) (element : ElementCall) (id : ℕ) (shown given : List ℕ) (result : Result ℕ NotComputed) (request : Request)
    (asks : request ≡ OnStore (model_keyed_call asked id (length shown))) (model : model_keyed_call asked id (length shown) ≡ model_call element id (length shown)) (rank : ℕ) (before : List Entry) (e : Entry)
    (quiet : may_change_keys e.call ≡ false) (i : IsEntered old.pass.me.0 new.pass.me.0 request (mark_computed result) rank old.pass.me.0.holding before e)
    (decided : DecidesAfter w (IsOfElement (w.devices.keys w.opened.devices.value) id element shown given result) before e) where
  abbrev asked_of : IsCalled old.pass.me.0 new.pass.me.0 1 request (mark_computed result) rank before e
  asked_of = called i

  after : KnowsBefore w (λ service. ((count : ℕ) → next_random service old.number count ≡ next_bytes old.stream count) × IsOfElement (w.devices.keys w.opened.devices.value) id element shown given result (counted service.store)) before e
  after = at_store w 4 old new r 1 request (mark_computed result) rank before e asked_of (by_after w (IsOfElement (w.devices.keys w.opened.devices.value) id element shown given result) (quiet_leaves w before e quiet) decided)
      (λ service a. subst (λ q. MayBeMarked service old.number q (mark_computed result)) (sym asks) (element_marked service old.number id asked element (w.devices.keys w.opened.devices.value) shown given result model a))

  pub computed_ready : has_vector element ≡ takes_vector asked → new.number ≡ old.number → new.spent ≡ old.spent → new.handles ≡ old.handles → new.stream ≡ drawn_from old.stream (drawn_by asked (is_ok result)) → AreSpares 0 old.spares new.spares → IsAt w new.pass → Legal w (entries_of new.pass.me.0.seen) → IsReady w 0 new
  computed_ready draws number spent handles stream spares at legal =
      kept_ready w old new r 1 request (model_keyed_call asked id (length shown)) asks (mark_computed result) rank before e asked_of (drawn_by asked (is_ok result)) (few_drawn (is_ok result && takes_vector asked)) (omega arith) (record {
        number = number;
        spent = spent;
        handles = handles;
        stream = stream;
        holding = λ f. ap (count_by f) i.holding;
        spares = spares;
      }) at legal (λ start is tells.
      let service = replay start before in
      let k = known w 4 old new r 1 request (mark_computed result) rank before e asked_of start is tells in
      element_own service old.number id asked element (w.devices.keys w.opened.devices.value) shown given result model (known_told after start is tells).1 draws r.operations old.stream.place new.stream.place k.sound r.last k.own (ap (λ (s : RandomStream). s.place) stream))

  pub computed_answered : HasDrawn element (next_bytes old.stream 16) → length given ≡ length shown → (answer : Result Output Status) →
      ((reply : Reply) → AnswersCall element result reply → AnswersReply answer reply) → AnswersAs result answer → IsAnswered w old.pass.me.0 new.pass.me.0 request rank answer shown given
  computed_answered vector size answer answers agrees =
      answered w 4 old new r 1 request (mark_computed result) rank before e asked_of answer shown given
      (λ start is. let d = decided start is in element_tells element (length shown) (map.get d.model.keys id) result answer d.holds.decided agrees)
      (known_more (λ service s.
      let fits = element_fits service old.number id asked element (w.devices.keys w.opened.devices.value) shown given result model s.1 (subst (HasDrawn element) (sym (s.0 16)) vector) size answer answers in
      (fits.0, may_reply (w.devices.keys w.opened.devices.value) service e old.number (OnStore (model_keyed_call asked id (length shown))) (mark_computed result) fits.0 (i.by ∙ r.number) (i.call_is ∙ asks) i.mark_is fits.1, fits.2)) after)
