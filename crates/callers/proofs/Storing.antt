-- A caller after a call on the store. For one that creates a key a slot is reserved first, and a ranked turn follows.
use Rattle.callers.proofs.Common.{AreOperations, ArePairs, Attributes, Call, Caller, CreatesKey, DecidesBefore, Entry, Err, FaultMark, HasNoFilling, IfErr, IfOk, IsAnswered, IsAt, IsCalled, IsCreated, IsLater, IsOwnPart, IsRanked, IsReady, IsReplied, KnowsBefore, KnowsTold, Legal, List, None, Ok, OnOk, OnStore, Opened, OperationHandle, Option, Output, Pairs, Random, RandomStream, Request, Result, SameButPass, Served, Service, Some, Status, TellsFailure, View, World, [], ap, arith, count_by, drawn_from, draws_none, entries_of, false, filling_pair, known_more, leases_of, length, names, nat_tests, next_random, outcome_of, own_of, own_reply, pairs_of, refl, replay, serve, step, subst, sym, without_pair, words_used, ℕ, ◌+◌, ◌<◌, ◌==◌, ◌∙◌, ◌∷◌, ◌≡◌, ◌≤◌}
use Rattle.store_model.specs.Store as model
use Rattle.store_model.specs.Prelude.{MayBeMarked}
use Rattle.slot_table.specs.Lent as lent
use Rattle.callers.proofs.{HandleLists.first_named, HandleLists.once, HandleLists.tally-append, HandleLists.tally-cons, HandleLists.without, Journeys.called, Journeys.goes_on_before, Journeys.then_called, KeyReplies.Gives}
use Rattle.callers.proofs.{Looking.AreSpares, Looking.same_spares, Owned.undrawn_own, Readying.answered, Readying.known, Readying.outcome_is, Readying.ready, Supposed.DecidesAt, Supposed.at_store, Supposed.by_none}

-- no such call draws
abbrev pub DrawsNone : Call → Type 0
DrawsNone call = (store : model.Store) (caller : ℕ) (random : Random) → (step store caller random call).drawn ≡ 0

-- a call on the store that has spent so many turns
module _ {D A C : Type 0} (w : World D A C) (old new : Caller D A C) (r : IsReady w 4 old) (turns : ℕ) (request : Request) (call : Call) (asks : request ≡ OnStore call) (mark : FaultMark) (rank : ℕ) (before : List Entry) (e : Entry)
    (c : IsCalled old.pass.me.0 new.pass.me.0 turns request mark rank before e) where
  abbrev Serves : (Served → Type 0) → Type 0
  Serves P = KnowsTold w (λ service. P (serve service old.number (OnStore call) mark)) before e

  outcome : (service : Service) → outcome_of service e ≡ serve service old.number (OnStore call) mark
  outcome service = outcome_is service e old.number (OnStore call) mark (c.by ∙ r.number) (c.call_is ∙ asks) c.mark_is

  -- what it changes of a caller beside its pass: random words are drawn, and a spare may have been another one's
  pub record IsKept (drawn : ℕ) : Type 0 where
    pub number : new.number ≡ old.number
    pub spent : new.spent ≡ old.spent
    pub handles : new.handles ≡ old.handles
    pub stream : new.stream ≡ drawn_from old.stream drawn
    pub holding : ArePairs new.pass.me.0.holding old.pass.me.0.holding
    pub spares : AreSpares 0 old.spares new.spares

  pub kept_ready : (drawn : ℕ) → words_used drawn ≤ 256 → turns ≤ 4 → IsKept drawn → IsAt w new.pass → Legal w (entries_of new.pass.me.0.seen) →
      Serves (λ s. IsOwnPart r.operations new.stream.place (own_of s.service old.number)) → IsReady w 0 new
  kept_ready drawn few enough kept at legal own =
      let left = c.left in let spent = kept.spent in let place = ap (λ (s : RandomStream). s.place) kept.stream in ready w 4 old new r turns request mark rank before e c r.operations 0 at legal (record {
        number = kept.number;
        stand = subst (λ h. AreOperations h.list.items r.operations) (sym kept.handles) r.stand;
        own = λ start is tells.
            subst (λ (s : Served). IsOwnPart r.operations new.stream.place (own_of s.service old.number)) (sym (outcome (replay start before))) (own start is tells);
        leases = λ f. kept.holding f ∙ (r.leases f ∙ ap (λ h. count_by f (leases_of h.list.items)) (sym kept.handles));
        clear = kept.spares.clear;
        five = let a = ap (λ h. length (leases_of h.list.items)) kept.handles in let b = kept.spares.many in let f = r.five in omega arith;
        room = let a = kept.spares.room in let f = r.room in omega arith;
        seed = ap (λ (s : RandomStream). s.seed) kept.stream;
        stream_of = ap (λ (s : RandomStream). s.caller) kept.stream;
        turns_are = let t = r.turns in omega arith;
        words = let t = r.words in omega arith;
        spent = let t = r.spent in omega arith;
      })

  pub kept_answered : (result : Result Output Status) (shown given : List ℕ) → TellsFailure w result mark →
      KnowsBefore w (λ service. IsReplied result shown given (serve service old.number (OnStore call) mark).reply) before e → IsAnswered w old.pass.me.0 new.pass.me.0 request rank result shown given
  kept_answered result shown given failure replied =
      answered w 4 old new r turns request mark rank before e c result shown given failure
      (own_reply w (IsReplied result shown given) (known_more (λ service replies. subst (λ (s : Served). IsReplied result shown given s.reply) (sym (outcome service)) replies) replied))

  -- its mark may stand on it in a service by a store of which P holds
  abbrev pub MayStand : (model.Store → Type 0) → Type 0
  MayStand P = (service : Service) → P service.store → MayBeMarked service old.number (OnStore call) mark

  -- so it was decided, and a service by such a store replies so
  pub decided_answered : {P : model.Store → Type 0} → DecidesAt w P before e → (result : Result Output Status) (shown given : List ℕ) → TellsFailure w result mark → MayStand P →
      ((service : Service) → P service.store → IsReplied result shown given (serve service old.number (OnStore call) mark).reply) → IsAnswered w old.pass.me.0 new.pass.me.0 request rank result shown given
  decided_answered decides result shown given failure may replies =
      kept_answered result shown given failure (known_more (λ service s. replies service s.1)
      (at_store w 4 old new r turns request mark rank before e c decides (λ service p. subst (λ q. MayBeMarked service old.number q mark) (sym asks) (may service p))))

-- one turn, which draws nothing
module _ {D A C : Type 0} (w : World D A C) (old new : Caller D A C) (r : IsReady w 4 old) {request : Request} (call : Call) (asks : request ≡ OnStore call) {mark : FaultMark} {rank : ℕ} {Decided : List Entry → Entry → Type 0}
    (ranked : IsRanked old.pass.me.0 new.pass.me.0 request mark rank old.pass.me.0.holding Decided) where
  abbrev made : IsCalled old.pass.me.0 new.pass.me.0 1 request mark rank ranked.before ranked.after.entry
  made = called ranked.after.entered

  pub stored_ready : SameButPass old new → DrawsNone call → IsAt w new.pass → Legal w (entries_of new.pass.me.0.seen) → IsReady w 0 new
  stored_ready same none at legal = kept_ready w old new r 1 request call asks mark rank ranked.before ranked.after.entry made 0 (omega arith) (omega arith) (record {
    number = same.number;
    spent = same.spent;
    handles = same.handles;
    stream = same.stream ∙ draws_none old.stream;
    holding = λ f. ap (count_by f) ranked.after.entered.holding;
    spares = same_spares r.clear same.spares;
  }) at legal (λ start is tells.
      let service = replay start ranked.before in
      let k = known w 4 old new r 1 request mark rank ranked.before ranked.after.entry made start is tells in
      subst (λ n. IsOwnPart r.operations n (own_of (serve service old.number (OnStore call) mark).service old.number)) (sym (ap (λ (s : RandomStream). s.place) same.stream))
      (undrawn_own service old.number call mark r.operations old.stream.place k.sound r.last k.own (none service.store old.number (next_random service old.number))))

  pub stored_answered : {P : model.Store → Type 0} → DecidesAt w P ranked.before ranked.after.entry → (result : Result Output Status) (shown given : List ℕ) → TellsFailure w result mark →
      ((service : Service) → P service.store → MayBeMarked service old.number (OnStore call) mark) →
      ((service : Service) → P service.store → IsReplied result shown given (serve service old.number (OnStore call) mark).reply) → IsAnswered w old.pass.me.0 new.pass.me.0 request rank result shown given
  stored_answered = decided_answered w old new r 1 request call asks mark rank ranked.before ranked.after.entry made

  -- nothing was decided
  pub undecided : DecidesAt w (λ m. Unit {0}) ranked.before ranked.after.entry
  undecided = by_none w 4 old new r 1 request mark rank ranked.before ranked.after.entry made

  -- and leaves the buffer
  pub stored : SameButPass old new → DrawsNone call → IsAt w new.pass → Legal w (entries_of new.pass.me.0.seen) → {P : model.Store → Type 0} → DecidesAt w P ranked.before ranked.after.entry →
      (result : Result Output Status) → TellsFailure w result mark → ((service : Service) → P service.store → MayBeMarked service old.number (OnStore call) mark) →
      ((service : Service) → P service.store → Gives result (serve service old.number (OnStore call) mark).reply) →
      IsReady w 0 new × ((buffer : List ℕ) → IsAnswered w old.pass.me.0 new.pass.me.0 request rank result buffer buffer)
  stored same none at legal decides result failure may gives =
      (stored_ready same none at legal, λ buffer. stored_answered decides result buffer buffer failure may (λ service p. let g = gives service p in (g.answers, g.unwritten buffer)))

-- what was decided of the store before the entry is known of the service's
pub decided_known : {D A C : Type 0} (w : World D A C) (P : model.Store → Type 0) (before : List Entry) (e : Entry) → DecidesBefore w P before e → KnowsTold w (λ service. P service.store) before e
decided_known w P before e decides start is tells = let d = decides start is in subst P (d.replayed tells) d.holds

-- by the answer that is there
pub on_ok : {A E : Type 0} {P : Type 0} (answer : Result A E) {a : A} → answer ≡ Ok a → OnOk answer P → P
on_ok (Ok x) e p = p
on_ok (Err y) e p = cc

pub if_ok : {A E : Type 0} (P : A → Type 0) (answer : Result A E) {a : A} → answer ≡ Ok a → IfOk answer P → P a
if_ok P answer e p = subst (λ x. IfOk x P) e p

pub if_err : {A E : Type 0} (P : E → Type 0) (answer : Result A E) {y : E} → answer ≡ Err y → IfErr answer P → P y
if_err P answer e p = subst (λ x. IfErr x P) e p

pub if_ok_as : {A E : Type 0} (P Q : A → Type 0) (answer : Result A E) → IfOk answer P → ((x : A) → P x → Q x) → IfOk answer Q
if_ok_as P Q (Ok x) p f = f x p
if_ok_as P Q (Err y) p f = tt

pub if_err_as : {A E : Type 0} (P Q : E → Type 0) (answer : Result A E) → IfErr answer P → ((y : E) → P y → Q y) → IfErr answer Q
if_err_as P Q (Ok x) p f = tt
if_err_as P Q (Err y) p f = f y p

-- CREATIONS

-- no lease is a filling
one_lease : (lease : Option lent.Reading) → count_by (λ p. p.1 == 0) (pairs_of lease) ≡ 0
one_lease None = refl
one_lease (Some lease) = let m = tally-cons (λ (p : ℕ × ℕ). p.1 == 0) (lease.slot, lease.creation + 1) [] in let z = ap once (no_zero lease.creation) in omega arith
  where
    no_zero : (n : ℕ) → (n + 1 == 0) ≡ false
    no_zero n = grind (arith, nat_tests)

pub leases_only : (cells : List OperationHandle) → HasNoFilling (leases_of cells)
leases_only [] = refl
leases_only (c ∷ cs) = let a = tally-append (λ (p : ℕ × ℕ). p.1 == 0) (pairs_of c.lease) (leases_of cs) in let b = one_lease c.lease in let r = leases_only cs in omega arith

pub has_no_filling : {D A C : Type 0} (w : World D A C) (n : ℕ) (old : Caller D A C) → IsReady w n old → HasNoFilling old.pass.me.0.holding
has_no_filling w n old r = r.leases (λ p. p.1 == 0) ∙ leases_only old.handles.list.items

-- the slot that was reserved is out
pub reserved : (filling : lent.Reserved) (own more : Pairs) → more ≡ filling_pair filling ∷ own → 0 < names filling.slot 0 more
reserved filling own more is = subst (λ ps. 0 < names filling.slot 0 ps) (sym is) (first_named (filling_pair filling) own)

-- what a creation is, a turn without rank leaves
pub creates_on : {D A C : Type 0} (w : World D A C) (v u : View Entry _) (own : Pairs) (caller : ℕ) (call : Request) (records : model.Store → Result Attributes Status → Type 0) (bytes : List ℕ) → IsLater v u own →
    CreatesKey w v caller call records bytes → CreatesKey w u caller call records bytes
creates_on w v u own caller call records bytes later c = record {
  keeps = c.keeps;
  leaves = λ start is h on. c.leaves start is h (goes_on_before v u own h later on);
  answers = λ start is h on. c.answers start is h (goes_on_before v u own h later on);
}

-- the two turns
pub created_in : {D A C : Type 0} {v u x : View Entry (Opened D A C)} (filling : lent.Reserved) {call : Request} {mark : FaultMark} {rank : ℕ} {Decided : List Entry → Entry → Type 0} →
    IsLater v u (filling_pair filling ∷ v.holding) → IsRanked u x call mark rank (without_pair (filling_pair filling) u.holding) Decided → IsCreated v x call mark rank Decided
created_in {v = v} {u = u} {x = x} filling {call = call} {mark = mark} {rank = rank} later ranked = record {
  before = ranked.before;
  entry = ranked.after.entry;
  called = then_called v u x 1 call mark rank (filling_pair filling ∷ v.holding) ranked.before ranked.after.entry later (called ranked.after.entered);
  holding = λ f.
      let a = ap (count_by f) ranked.after.entered.holding in let b = without f (filling_pair filling) u.holding (reserved filling v.holding u.holding later.holding) in
      let c = ap (count_by f) later.holding in let m = tally-cons f (filling_pair filling) v.holding in omega arith;
  decided = ranked.after.decided;
}

-- the caller after both
module _ {D A C : Type 0} (w : World D A C) (old new : Caller D A C) (r : IsReady w 4 old) {request : Request} (call : Call) (asks : request ≡ OnStore call) {mark : FaultMark} {rank : ℕ} {Decided : List Entry → Entry → Type 0}
    (c : IsCreated old.pass.me.0 new.pass.me.0 request mark rank Decided) where
  pub drew_ready : (drawn : ℕ) → words_used drawn ≤ 256 → new.number ≡ old.number → new.spent ≡ old.spent → new.handles ≡ old.handles → new.spares ≡ old.spares → new.stream ≡ drawn_from old.stream drawn →
      IsAt w new.pass → Legal w (entries_of new.pass.me.0.seen) →
      KnowsTold w (λ service. IsOwnPart r.operations new.stream.place (own_of (serve service old.number (OnStore call) mark).service old.number)) c.before c.entry → IsReady w 0 new
  drew_ready drawn few number spent handles spares stream at legal own = kept_ready w old new r 2 request call asks mark rank c.before c.entry c.called drawn few (omega arith) (record {
    number = number;
    spent = spent;
    handles = handles;
    stream = stream;
    holding = c.holding;
    spares = same_spares r.clear spares;
  }) at legal own

  pub created_answered : {P : model.Store → Type 0} → DecidesAt w P c.before c.entry → (result : Result Output Status) → TellsFailure w result mark →
      ((service : Service) → P service.store → MayBeMarked service old.number (OnStore call) mark) →
      ((service : Service) → P service.store → Gives result (serve service old.number (OnStore call) mark).reply) → (buffer : List ℕ) → IsAnswered w old.pass.me.0 new.pass.me.0 request rank result buffer buffer
  created_answered decides result failure may gives buffer =
      decided_answered w old new r 2 request call asks mark rank c.before c.entry c.called decides result buffer buffer failure may (λ service p. let g = gives service p in (g.answers, g.unwritten buffer))

  -- where no random word is drawn
  pub created_ready : SameButPass old new → DrawsNone call → IsAt w new.pass → Legal w (entries_of new.pass.me.0.seen) → IsReady w 0 new
  created_ready same none at legal =
      drew_ready 0 (omega arith) same.number same.spent same.handles same.spares (same.stream ∙ draws_none old.stream) at legal (λ start is tells.
      let service = replay start c.before in
      let k = known w 4 old new r 2 request mark rank c.before c.entry c.called start is tells in
      subst (λ n. IsOwnPart r.operations n (own_of (serve service old.number (OnStore call) mark).service old.number)) (sym (ap (λ (s : RandomStream). s.place) same.stream))
      (undrawn_own service old.number call mark r.operations old.stream.place k.sound r.last k.own (none service.store old.number (next_random service old.number))))
