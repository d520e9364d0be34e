-- The service by which a caller's call is answered, also where the history isn't told: with a store by which its turn was decided,
-- and of the caller's own what the caller has.
use Rattle.callers.proofs.Common.{Caller, DecidesAfter, DecidesBefore, Entry, FaultMark, HandleOperation, Inactive, IsCalled, IsReady, IsSound, IsSoundOperation, IsSoundStore, KnowsBefore, KnowsTold, List, Own, Request, Service, Settings, Store, World, [], ap, arith, counted, false, get_or, get_or-set_same, known_more, leaves_shared, length, length-append, may_change_keys, next_bytes, next_random, operation_at, operation_of, outcome_of, own_of, random_bytes, refl, replay, replay_push, set, set-get_or, start_of, subst, sym, with_own, ℕ, ◌++◌, ◌+◌, ◌-◌, ◌∙◌, ◌∷◌, ◌≡◌, ◌≤◌, IsStartOf, ToldBy}
use Rattle.store_model.specs.Prelude.{MayBeMarked}
use Rattle.store_model.proofs.Sound.{counted_sound}
use Rattle.callers.proofs.{Owned.set_own, Owned.sound_replay, Readying.known, Readying.settings_stay}

-- STORES BY WHICH A TURN WAS DECIDED

-- and with it whatever follows
pub decides_as : {D A C : Type 0} (w : World D A C) (before : List Entry) (e : Entry) {P Q : Store → Type 0} → DecidesAfter w P before e → ((m : Store) → P m → Q m) → DecidesAfter w Q before e
decides_as w before e decides more start is = let d = decides start is in record { model = d.model; replayed = d.replayed; sound = d.sound; settings = d.settings; calls = d.calls; holds = more d.model d.holds }

pub quiet_leaves : {D A C : Type 0} (w : World D A C) (before : List Entry) (e : Entry) → may_change_keys e.call ≡ false → KnowsTold w (λ service. (outcome_of service e).service.store ≡ counted service.store) before e
quiet_leaves w before e quiet start is tells = leaves_shared (replay start before) e.caller e.call e.mark quiet

-- a store less its last call
abbrev less : Store → Store
less m = record m { calls = m.calls - 1 }

module _ {D A C : Type 0} (w : World D A C) where
  -- there is a store of which P holds
  pub record HasStoreBefore (start : Service) (P : Store → Type 0) (before : List Entry) (e : Entry) : Type 0 where
    pub store : Store
    pub settings : store.settings ≡ start.store.settings
    pub sound : IsSoundStore (counted store)
    pub replayed : ToldBy w start (before ++ e ∷ []) → store ≡ (replay start before).store
    pub holds : P store

  abbrev pub DecidesAt : (Store → Type 0) → List Entry → Entry → Type 0
  DecidesAt P before e = (start : Service) → IsStartOf w start → HasStoreBefore start P before e

  module _ {before : List Entry} {e : Entry} where
    pub by_before : {P : Store → Type 0} → DecidesBefore w P before e → DecidesAt P before e
    by_before decides start is = let d = decides start is in record { store = d.model; settings = d.settings; sound = counted_sound d.model d.sound; replayed = d.replayed; holds = d.holds }

    -- after an entry that changes no key
    pub by_after : (P : Store → Type 0) → KnowsTold w (λ service. (outcome_of service e).service.store ≡ counted service.store) before e → DecidesAfter w P before e → DecidesAt (λ m. P (counted m)) before e
    by_after P leaves decides start is =
        let d = decides start is in let m = d.model in let calls = d.calls in
        let more : length (before ++ e ∷ []) ≡ length before + 1 = length-append before (e ∷ []) in
        let back : counted (less m) ≡ m = ap (λ n. record m { calls = n }) (let same : m.calls - 1 + 1 ≡ m.calls = omega (arith, calls, more) in same) in record {
          store = less m;
          settings = d.settings;
          sound = subst IsSoundStore (sym back) d.sound;
          replayed = λ tells.
              let s = (replay start before).store in
              ap less (d.replayed tells ∙ (ap (λ (x : Service). x.store) (replay_push start before e) ∙ leaves start is tells))
              ∙ ap (λ n. record s { calls = n }) (let same : s.calls + 1 - 1 ≡ s.calls = omega arith in same);
          holds = subst P (sym back) d.holds;
        }

-- THE SERVICE

module _ {D A C : Type 0} (w : World D A C) (n : ℕ) (old new : Caller D A C) (r : IsReady w n old) (turns : ℕ) (call : Request) (mark : FaultMark) (rank : ℕ) (before : List Entry) (e : Entry)
    (c : IsCalled old.pass.me.0 new.pass.me.0 turns call mark rank before e) where
  sound_there : (start : Service) → IsStartOf w start → IsSound (replay start before)
  sound_there start is = sound_replay start (start_of is.settings is.found) before is.is (r.sound start is) c.goes_on.signed

  -- where nothing was decided, the replay's store does
  pub by_none : DecidesAt w (λ m. Unit {0}) before e
  by_none start is = record {
    store = (replay start before).store;
    settings = settings_stay start before;
    sound = counted_sound (replay start before).store (sound_there start is).store;
    replayed = λ tells. refl;
    holds = tt;
  }

  -- the mark may stand on the entry where it may on the caller's call
  may_stand : (service : Service) → MayBeMarked service old.number call mark → MayBeMarked service e.caller e.call e.mark
  may_stand service may =
      subst (λ n. MayBeMarked service n e.call e.mark) (sym (c.by ∙ r.number))
      (subst (λ (q : Request). MayBeMarked service old.number q e.mark) (sym c.call_is) (subst (λ (m : FaultMark). MayBeMarked service old.number call m) (sym c.mark_is) may))

  module _ {handle : ℕ} (first : 1 ≤ handle) (last : handle ≤ 4) where
    -- the service draws the caller's random words, and Q holds of the handle's operation and the store
    pub record IsSupposed (Q : HandleOperation → Store → Type 0) (service : Service) : Type 0 where
      pub random : (count : ℕ) → next_random service old.number count ≡ next_bytes old.stream count
      pub holds : Q (operation_of service old.number handle) service.store

    -- the caller's own, with this operation
    abbrev own_with : Own → HandleOperation → Own
    own_with own operation = record { drawn = old.stream.place; operations = set own.operations handle operation }

    -- the operation that is chosen is the caller's, where the store could be one that the caller's key is of
    pub supposed : {P : Store → Type 0} (Q : HandleOperation → Store → Type 0) → DecidesAt w P before e →
        ((m : Store) → P m → (o : HandleOperation) × (IsSoundOperation m (operation_at r.operations handle) → o ≡ operation_at r.operations handle) × Q o m) →
        ((service : Service) → IsSupposed Q service → MayBeMarked service old.number call mark) → KnowsBefore w (IsSupposed Q) before e
    supposed Q decides choose may start is =
        let d = decides start is in let m = d.store in let base = replay start before in let sound = sound_there start is in let own = own_of base old.number in let o = choose m d.holds in
        let there : own_of (with_own base m old.number (own_with own o.0)) old.number ≡ own_with own o.0 = set_own base m old.number (own_with own o.0) sound r.last in
        let at : operation_of (with_own base m old.number (own_with own o.0)) old.number handle ≡ o.0 =
        ap (λ (x : Own). get_or x.operations handle Inactive) there ∙ get_or-set_same own.operations handle o.0 Inactive (let z = sound.handles old.number in omega arith) in
        let seed : m.settings.seed ≡ old.stream.seed = ap (λ (s : Settings). s.seed) d.settings ∙ (ap (λ (s : Service). s.store.settings.seed) is.is ∙ (is.seed_is ∙ sym r.seed)) in
        let drawn : (own_of (with_own base m old.number (own_with own o.0)) old.number).drawn ≡ old.stream.place = ap (λ (x : Own). x.drawn) there in
        let holds : IsSupposed Q (with_own base m old.number (own_with own o.0)) = record {
          random = λ count i. random_bytes (seed i) (sym r.stream_of i) (drawn i) count;
          holds = subst (λ x. Q x m) (sym at) o.2;
        } in record {
          service = with_own base m old.number (own_with own o.0);
          settings = d.settings;
          sound = d.sound;
          allowed = may_stand (with_own base m old.number (own_with own o.0)) (may (with_own base m old.number (own_with own o.0)) holds);
          replayed = λ tells.
              let k = known w n old new r turns call mark rank before e c start is tells in let same = d.replayed tells in
              let mine = k.own.each handle first last in
              let chosen : o.0 ≡ get_or own.operations handle Inactive = o.1 (subst (λ x. IsSoundOperation m x) mine (subst (λ s. IsSoundOperation s (operation_of base old.number handle)) (sym same) (k.sound.operations old.number handle))) ∙ sym mine in
              let kept : own_with own o.0 ≡ own = (λ i. record { drawn = sym k.own.drawn i; operations = set own.operations handle (chosen i) }) ∙ ap (λ l. record { drawn = own.drawn; operations = l }) (set-get_or own.operations handle Inactive) in
              (λ i. with_own base (same i) old.number (kept i)) ∙ ap (λ l. record { store = base.store; owns = l }) (set-get_or base.owns old.number _);
          holds = holds;
        }

    -- as it stands
    pub standing : {P : Store → Type 0} → DecidesAt w P before e → ((service : Service) → IsSupposed (λ o m. (o ≡ operation_at r.operations handle) × P m) service → MayBeMarked service old.number call mark) →
        KnowsBefore w (IsSupposed (λ o m. (o ≡ operation_at r.operations handle) × P m)) before e
    standing decides may = supposed _ decides (λ m p. (operation_at r.operations handle, (λ s. refl), (refl, p))) may

  -- for a call on the store
  pub at_store : {P : Store → Type 0} → DecidesAt w P before e → ((service : Service) → P service.store → MayBeMarked service old.number call mark) →
      KnowsBefore w (λ service. ((count : ℕ) → next_random service old.number count ≡ next_bytes old.stream count) × P service.store) before e
  at_store decides may = known_more (λ service s. (s.random, s.holds.1)) (standing {handle = 1} (omega arith) (omega arith) decides (λ service s. may service s.holds.1))
