-- A caller after a setup.
use Rattle.callers.proofs.Common.{After, AnswersReply, AreOperations, ArePairs, Caller, DecidesAfter, Entry, Err, FaultMark, HandleOperation, Held, HoldsLease, Inactive, IsAnswered, IsAt, IsCalled, IsChanged, IsEntered, IsLent, IsOperation, IsReady, IsRefused, KeyUse, Keyed, KeyedSetup, Keyless, KeylessSetup, KnowsBefore, Legal, List, None, Ok, OnHandle, OperationHandle, Output, Pairs, Plain, Reading, ReadsKey, Request, Result, Served, Service, Setup, Status, TellsFailure, World, ap, applied, arith, buffer_after, busy, cond, count_by, counted, entries_of, failure_marked, false, get_or, id_read, is_inactive, is_ok, known_more, known_told, lease_pair, leases_of, length, mark_of, may_change_keys, model_setup, not, operation_at, operation_of, outcome_of, plain_reply, refl, refusal_without_key, replay, set-get_or, set_up_by, set_up_with_key, set_up_without_key, setups, stays, subst, sym, true, use_refusal, used_for, with_operation_at, work_without_key, ℕ, ◌+◌, ◌-◌, ◌<◌, ◌^◌, ◌∙◌, ◌∷◌, ◌≡◌, ◌≤◌}
use Rattle.psa_status.specs.declared.Status.TheVariants as status
use Rattle.store_model.specs.Prelude.{MayBeMarked}
use Rattle.service_calls.specs.declared.output.Output.TheVariants as output
use Rattle.callers.proofs.{HandleLists.busy_put, HandleLists.cell_at, HandleLists.few, HandleLists.once, HandleLists.tally-cons, Failing.answers_plain, Failing.set_up_plainly, Journeys.called, Looking.AreSpares, Looking.same_spares, Marked.plain_may, Marked.read_marked}
use Rattle.callers.proofs.{Readying.applied_answered, Readying.applied_there, Readying.outcome_is, Readying.own_there, Readying.ready, Supposed.by_after, Supposed.by_none, Supposed.quiet_leaves, Supposed.standing, SettingUp.begun_lent, SettingUp.counts, SettingUp.draws_none, SettingUp.quiet, SettingUp.reads, SettingUp.set_up_lent, SettingUp.set_up_refused, SettingUp.set_up_twice, SettingUp.still}

pub waits_by : (operations : List HandleOperation) (handle : ℕ) (operation : HandleOperation) (more : ℕ) → handle ≤ 4 → 1 ≤ handle → length operations ≡ 4 → operation_at operations handle ≡ Inactive → once (not (is_inactive operation)) ≤ more →
    busy (with_operation_at operations handle operation) ≤ busy operations + more
waits_by operations handle operation more last first four free enough =
    let b = busy_put operations (handle - 1) operation (let z = four in omega arith) in let o = ap (λ (x : HandleOperation). once (not (is_inactive x))) free in omega arith

-- what is said of a handle holds of its operation
pub at_handle : (P : HandleOperation → Type 0) (cells : List OperationHandle) (operations : List HandleOperation) (handle : ℕ) → AreOperations cells operations → 1 ≤ handle → handle ≤ 4 →
    ((c : OperationHandle) (o : HandleOperation) → c ≡ get_or cells (handle - 1) c → IsOperation c o → P o) → P (operation_at operations handle)
at_handle P cells operations handle are first last says =
    let at = cell_at cells (handle - 1) (let z = are.cells_are in omega arith) in says at.0 (operation_at operations handle) at.1 (are.each (handle - 1) at.0 (omega arith) at.1)

module _ {D A C : Type 0} (w : World D A C) (old new : Caller D A C) (r : IsReady w 4 old) {request : Request} {mark : FaultMark} {rank : ℕ} {own : Pairs} {before : List Entry} {e : Entry}
    (i : IsEntered old.pass.me.0 new.pass.me.0 request mark rank own before e) {handle : ℕ} (first : 1 ≤ handle) (last : handle ≤ 4) where
  abbrev made : IsCalled old.pass.me.0 new.pass.me.0 1 request mark rank before e
  made = called i

  -- what a one-thread service makes of a setup that has the caller's operation there
  serves : (s : Setup) → request ≡ OnHandle handle (model_setup s) → mark ≡ Plain → (service : Service) → operation_of service old.number handle ≡ operation_at r.operations handle →
      outcome_of service e ≡ applied service old.number handle (set_up_by service.store (operation_at r.operations handle) s)
  serves s asks plain service mine =
      outcome_is service e old.number (OnHandle handle (model_setup s)) Plain (i.by ∙ r.number) (i.call_is ∙ asks) (i.mark_is ∙ plain)
      ∙ (setups service old.number handle s ∙ (λ j. applied service old.number handle (set_up_by service.store (mine j) s)))

  pub sets_up : (s : Setup) → request ≡ OnHandle handle (model_setup s) → mark ≡ Plain →
      KnowsBefore w (λ service. outcome_of service e ≡ applied service old.number handle (set_up_by service.store (operation_at r.operations handle) s)) before e
  sets_up s asks plain =
      known_more (λ service x. serves s asks plain service x.holds.0) (standing w 4 old new r 1 request mark rank before e made first last (by_none w 4 old new r 1 request mark rank before e made)
      (λ service x. plain_may service old.number request plain))

  module _ (after : After Held) (applies : KnowsBefore w (λ service. outcome_of service e ≡ applied service old.number handle after) before e) where
    -- what such a call changes of a caller beside its pass and its handles, where so many leases are kept and it counts so often
    pub record IsBegun (lent more : ℕ) : Type 0 where
      pub number : new.number ≡ old.number
      pub stream : new.stream ≡ old.stream
      pub spent : new.spent ≡ old.spent + more
      pub spares : AreSpares lent old.spares new.spares
      pub drawn : after.drawn ≡ 0
      pub few : more ≤ 1
      pub waits : busy (with_operation_at r.operations handle after.operation) ≤ busy r.operations + more

    begun_ready : {lent more : ℕ} → IsBegun lent more → AreOperations new.handles.list.items (with_operation_at r.operations handle after.operation) → ArePairs own (leases_of new.handles.list.items) →
        length (leases_of new.handles.list.items) ≡ length (leases_of old.handles.list.items) + lent → old.spent + more ≤ 2 ^ 48 → IsAt w new.pass → Legal w (entries_of new.pass.me.0.seen) → IsReady w 0 new
    begun_ready b stand leases count worn at legal =
        let left = i.on.turns_left in let spent = b.spent in let few = b.few in let place = ap (λ s. s.place) b.stream in
        ready w 4 old new r 1 request mark rank before e made (with_operation_at r.operations handle after.operation) 0 at legal (record {
          number = b.number;
          stand = stand;
          own = applied_there w 4 old new r 1 request mark rank before e made first last after (known_told applies) (place ∙ still old.stream.place after.drawn b.drawn);
          leases = λ f. ap (count_by f) i.holding ∙ leases f;
          clear = b.spares.clear;
          five = let m = b.spares.many in let f = r.five in omega (arith, count);
          room = let a = b.spares.room in let f = r.room in omega arith;
          seed = ap (λ s. s.seed) b.stream;
          stream_of = ap (λ s. s.caller) b.stream;
          turns_are = let t = r.turns in let z = b.waits in omega arith;
          words = let t = r.words in omega arith;
          spent = omega arith;
        })

    pub changed_ready : {more : ℕ} → IsBegun 0 more → IsChanged old.handles.list.items new.handles.list.items r.operations handle after.operation None → own ≡ old.pass.me.0.holding → old.spent + more ≤ 2 ^ 48 → IsAt w new.pass → Legal w (entries_of new.pass.me.0.seen) → IsReady w 0 new
    changed_ready b change held = begun_ready b change.stand (λ f. ap (count_by f) held ∙ (r.leases f ∙ sym (change.leases f))) (let a = change.fewer in omega arith)

    pub kept_ready : {more : ℕ} {lease : Reading} → IsBegun 1 more → HoldsLease old.handles.list.items new.handles.list.items r.operations handle after.operation lease → own ≡ lease_pair lease ∷ old.pass.me.0.holding → old.spent + more ≤ 2 ^ 48 → IsAt w new.pass → Legal w (entries_of new.pass.me.0.seen) → IsReady w 0 new
    kept_ready {lease = lease} b kept held = begun_ready b kept.stand (λ f.
        let a = ap (count_by f) held in let b = tally-cons f (lease_pair lease) old.pass.me.0.holding in let c = tally-cons f (lease_pair lease) (leases_of old.handles.list.items) in
        let d = r.leases f in let k = kept.leases f in omega arith) kept.more

    pub begun_answered : (result : Result Output Status) → TellsFailure w result mark → AnswersReply result after.reply → ((buffer : List ℕ) → buffer ≡ buffer_after buffer after.reply) →
        (buffer : List ℕ) → IsAnswered w old.pass.me.0 new.pass.me.0 request rank result buffer buffer
    begun_answered result failure answers unwritten buffer =
        applied_answered w 4 old new r 1 request mark rank before e made after (known_more (λ service same. ap (λ (s : Served). s.reply) same) applies) result buffer buffer failure answers (unwritten buffer)

  pub twice : (s : Setup) → request ≡ OnHandle handle (model_setup s) → mark ≡ Plain → is_inactive (operation_at r.operations handle) ≡ false →
      KnowsBefore w (λ service. outcome_of service e ≡ applied service old.number handle (stays (operation_at r.operations handle) status.BadState)) before e
  twice s asks plain begun =
      known_more (λ service same. same ∙ ap (applied service old.number handle) (set_up_twice service.store (operation_at r.operations handle) s begun)) (sets_up s asks plain)

  -- a setup without a key
  module _ (s : KeylessSetup) (asks : request ≡ OnHandle handle (model_setup (Keyless s))) (plain : mark ≡ Plain) where
    abbrev bare : After Held
    bare = set_up_without_key (operation_at r.operations handle) s

    pub bare_ready : (result : Result (Unit {0}) Status) → plain_reply result ≡ bare.reply → operation_at r.operations handle ≡ Inactive → IsChanged old.handles.list.items new.handles.list.items r.operations handle bare.operation None →
        own ≡ old.pass.me.0.holding → new.number ≡ old.number → new.stream ≡ old.stream → new.spares ≡ old.spares → new.spent ≡ old.spent + cond (is_ok result) 1 0 → old.spent < 2 ^ 48 → IsAt w new.pass →
        Legal w (entries_of new.pass.me.0.seen) → IsReady w 0 new
    bare_ready result reply free change held number stream spares spent worn = changed_ready bare (sets_up (Keyless s) asks plain) (record {
      number = number;
      stream = stream;
      spent = spent;
      spares = same_spares r.clear spares;
      drawn = draws_none (operation_at r.operations handle) (refusal_without_key s) (record { key = None; work = work_without_key s });
      few = few (is_ok result);
      waits = waits_by r.operations handle bare.operation (once (is_ok result)) last first r.stand.count free
          (subst (λ o. once (not (is_inactive (set_up_without_key o s).operation)) ≤ once (is_ok result)) (sym free)
          (counts (refusal_without_key s) (record { key = None; work = work_without_key s }) result (reply ∙ ap (λ o. (set_up_without_key o s).reply) free)));
    }) change held (let f = few (is_ok result) in omega arith)

    pub bare_answered : (result : Result Output Status) → AnswersReply result bare.reply → ((buffer : List ℕ) → buffer ≡ buffer_after buffer bare.reply) → (buffer : List ℕ) → IsAnswered w old.pass.me.0 new.pass.me.0 request rank result buffer buffer
    bare_answered result answers =
        begun_answered bare (sets_up (Keyless s) asks plain) result
        (λ start is. answers_plain result bare.reply answers (set_up_plainly (operation_at r.operations handle) s _) ∙ ap failure_marked (sym plain)) answers

  -- a setup that leaves the operation
  module _ (o : HandleOperation) (there : operation_at r.operations handle ≡ o) (why : Status) (applies : KnowsBefore w (λ service. outcome_of service e ≡ applied service old.number handle (stays o why)) before e) where
    same_operations : with_operation_at r.operations handle o ≡ r.operations
    same_operations = ap (with_operation_at r.operations handle) (sym there) ∙ set-get_or r.operations (handle - 1) Inactive

    pub stayed_ready : own ≡ old.pass.me.0.holding → new.number ≡ old.number → new.stream ≡ old.stream → new.handles ≡ old.handles → new.spent ≡ old.spent → AreSpares 0 old.spares new.spares → old.spent < 2 ^ 48 → IsAt w new.pass →
        Legal w (entries_of new.pass.me.0.seen) → IsReady w 0 new
    stayed_ready held number stream handles spent spares worn = begun_ready (stays o why) applies {lent = 0} {more = 0} (record {
      number = number;
      stream = stream;
      spent = let z = spent in omega arith;
      spares = spares;
      drawn = refl;
      few = omega arith;
      waits = let b = ap busy same_operations in omega arith;
    }) (subst (λ h. AreOperations h.list.items (with_operation_at r.operations handle o)) (sym handles) (subst (AreOperations old.handles.list.items) (sym same_operations) r.stand))
        (λ f. ap (count_by f) held ∙ (r.leases f ∙ ap (λ h. count_by f (leases_of h.list.items)) (sym handles))) (let a = ap (λ h. length (leases_of h.list.items)) handles in omega arith) (omega arith)

    pub stayed_answered : TellsFailure w (Err why) mark → (buffer : List ℕ) → IsAnswered w old.pass.me.0 new.pass.me.0 request rank (Err why) buffer buffer
    stayed_answered failure = begun_answered (stays o why) applies (Err why) failure (refl, refl) (λ buffer. refl)

  -- a setup with its key
  module _ (s : KeyedSetup) (wanted : KeyUse) (asks : request ≡ OnHandle handle (model_setup (Keyed s))) (uses : wanted ≡ used_for s.purpose s.alg) (free : operation_at r.operations handle ≡ Inactive) where
    unchanging : may_change_keys e.call ≡ false
    unchanging = ap may_change_keys (i.call_is ∙ asks) ∙ quiet handle (Keyed s)

    pub refuses : (why : Status) → mark ≡ mark_of why → DecidesAfter w (IsRefused (use_refusal wanted) s.key.0 why) before e →
        KnowsBefore w (λ service. outcome_of service e ≡ applied service old.number handle (stays Inactive why)) before e
    refuses why marked decided = known_more (λ service x.
        outcome_is service e old.number (OnHandle handle (model_setup (Keyed s))) (mark_of why) (i.by ∙ r.number) (i.call_is ∙ asks) (i.mark_is ∙ marked)
        ∙ set_up_refused service old.number handle s wanted why uses (x.holds.0 ∙ free) x.holds.1)
        (standing w 4 old new r 1 request mark rank before e made first last (by_after w (IsRefused (use_refusal wanted) s.key.0 why) (quiet_leaves w before e unchanging) decided)
        (λ service x. subst (MayBeMarked service old.number request) (sym marked) (subst (λ q. MayBeMarked service old.number q (mark_of why)) (sym asks)
        (read_marked service old.number (OnHandle handle (model_setup (Keyed s))) (use_refusal wanted) s.key.0 why (counted service.store) refl (reads service old.number handle s (ap is_inactive (x.holds.0 ∙ free))) x.holds.1))))

    module _ (lease : Reading) (plain : mark ≡ Plain) (decided : DecidesAfter w (IsLent (use_refusal wanted) s.key.0 lease) before e) where
      abbrev begun : After Held
      begun = begun_lent s lease

      lends : KnowsBefore w (λ service. outcome_of service e ≡ applied service old.number handle begun) before e
      lends = known_more (λ service x.
          serves (Keyed s) asks plain service x.holds.0 ∙ ap (applied service old.number handle) (ap (λ o. set_up_with_key service.store o s) free ∙ set_up_lent service.store s wanted lease uses x.holds.1))
          (standing w 4 old new r 1 request mark rank before e made first last (by_after w (IsLent (use_refusal wanted) s.key.0 lease) (quiet_leaves w before e unchanging) decided)
          (λ service x. plain_may service old.number request plain))

      pub lent_ready : HoldsLease old.handles.list.items new.handles.list.items r.operations handle begun.operation lease → own ≡ lease_pair lease ∷ old.pass.me.0.holding →
          new.number ≡ old.number → new.stream ≡ old.stream → new.spent ≡ old.spent + 1 → AreSpares 1 old.spares new.spares → old.spent < 2 ^ 48 → IsAt w new.pass → Legal w (entries_of new.pass.me.0.seen) → IsReady w 0 new
      lent_ready kept held number stream spent spares worn = kept_ready begun lends (record {
        number = number;
        stream = stream;
        spent = spent;
        spares = spares;
        drawn = refl;
        few = omega arith;
        waits = waits_by r.operations handle begun.operation 1 last first r.stand.count free (omega arith);
      }) kept held (omega arith)

      pub lent_answered : (buffer : List ℕ) → IsAnswered w old.pass.me.0 new.pass.me.0 request rank (Ok output.Done) buffer buffer
      lent_answered = begun_answered begun lends (Ok output.Done) (λ start is. ap failure_marked (sym plain)) refl (λ buffer. refl)

-- the call reads its key, in whatever history it is entered
pub reads_key : {D A C : Type 0} (w : World D A C) (old : Caller D A C) (r : IsReady w 4 old) (request : Request) (handle : ℕ) (s : KeyedSetup) → 1 ≤ handle → handle ≤ 4 →
    request ≡ OnHandle handle (model_setup (Keyed s)) → operation_at r.operations handle ≡ Inactive → ReadsKey w old.pass.me.0 request s.key.0
reads_key w old r request handle s first last asks free start is h on tells =
    let own = own_there w 4 old r start h is on tells in
    let inactive : is_inactive (operation_of (replay start h) old.number handle) ≡ true = ap is_inactive (own.each handle first last ∙ free) in
    ap (λ n. id_read (replay start h) n request) r.number
    ∙ (ap (id_read (replay start h) old.number) asks ∙ reads (replay start h) old.number handle s inactive)
