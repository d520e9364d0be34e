-- What is a caller's own in the one-thread service, as its entries change it.
use Rattle.callers.proofs.Common.{After, Call, Corrupt, Destroy, Entry, FaultMark, HandleOperation, Hardware, Held, Inactive, IsCaller, IsOwnPart, IsSound, IsSoundOperation, IsSoundStore, List, OnStore, Outcome, Own, Plain, Service, Storage, Store, [], ap, applied, arith, eqb_tells, failed_step, get_or, get_or-set_other, get_or-set_same, inl, inr, length, length-set, new_own, next_random, on_store, outcome_of, own_of, refl, replay, serve, service_of, set, start_operation, start_own, step, subst, sym, with_drawn, with_operation, with_own, words_used, ℕ, ◌+◌, ◌-◌, ◌∙◌, ◌∷◌, ◌≡◌, ◌≢◌, ◌≤◌}
use Rattle.std.specs.List.{AllByRecursion}
use Rattle.store_model.proofs.SoundService as sound

-- SOUND SERVICES

sound_start : (store : Store) → IsSoundStore store → IsSound (service_of store)
sound_start store h = record {
  store = h;
  operations = start_operation (IsSoundOperation store) store tt;
  handles = start_own (λ (o : Own). length o.operations ≡ 5) store refl;
  callers = refl;
}

sound_over : (h : List Entry) (service : Service) → AllByRecursion IsCaller h → IsSound service → IsSound (replay service h)
sound_over [] service all is = is
sound_over (e ∷ h) service all is = sound_over h (outcome_of service e).service all.1 (sound.stays service e.caller e.call e.mark all.0.0 all.0.1 is)

pub sound_replay : (start : Service) (store : Store) (h : List Entry) → start ≡ service_of store → IsSoundStore start.store → AllByRecursion IsCaller h → IsSound (replay start h)
sound_replay start store h is s all =
    sound_over h start all (subst IsSound (sym is) (sound_start store (subst (λ (x : Service). IsSoundStore x.store) is s)))

-- A CALLER'S OWN

pub set_own : (service : Service) (store : Store) (caller : ℕ) (own : Own) → IsSound service → caller ≤ 16 → own_of (with_own service store caller own) caller ≡ own
set_own service store caller own is last = get_or-set_same service.owns caller own new_own (let c = is.callers in omega arith)

-- one operation is set, and words are drawn
pub set_operation : (operations : List HandleOperation) (place : ℕ) (own : Own) (handle : ℕ) (operation : HandleOperation) (drawn next : ℕ) → IsOwnPart operations place own → length operations ≡ 4 → 1 ≤ handle → handle ≤ 4 →
    next ≡ place + words_used drawn → IsOwnPart (set operations (handle - 1) operation) next (with_drawn (with_operation own handle operation) drawn)
set_operation operations place own handle operation drawn next is four first last more = record {
  drawn = let d = is.drawn in omega arith;
  handles = length-set own.operations handle operation ∙ is.handles;
  each = λ k low high. elim (eqb_tells k handle) [
    | inl e ↦
        ap (λ j. get_or (set own.operations handle operation) j Inactive) e.1
        ∙ (get_or-set_same own.operations handle operation Inactive (let h = is.handles in omega arith)
        ∙ (sym (get_or-set_same operations (handle - 1) operation Inactive (omega arith)) ∙ ap (λ j. get_or (set operations (handle - 1) operation) (j - 1) Inactive) (sym e.1)))
    | inr e ↦
        let other : (k - 1) ≢ (handle - 1) = λ same. e.1 (omega arith) in
        get_or-set_other own.operations handle k operation Inactive e.1 ∙ (is.each k low high ∙ sym (get_or-set_other operations (handle - 1) (k - 1) operation Inactive other))
  ];
}

-- so it is by a call on a handle
pub applied_own : (service : Service) (caller handle : ℕ) (after : After Held) (operations : List HandleOperation) (place next : ℕ) → IsSound service → caller ≤ 16 → IsOwnPart operations place (own_of service caller) → length operations ≡ 4 →
    1 ≤ handle → handle ≤ 4 → next ≡ place + words_used after.drawn → IsOwnPart (set operations (handle - 1) after.operation) next (own_of (applied service caller handle after).service caller)
applied_own service caller handle after operations place next is last own four first high more =
    let changed = with_drawn (with_operation (own_of service caller) handle after.operation) after.drawn in
    subst (IsOwnPart (set operations (handle - 1) after.operation) next) (sym (set_own service (record service.store { calls = service.store.calls + 1 }) caller changed is last))
    (set_operation operations place (own_of service caller) handle after.operation after.drawn next own four first high more)

-- CALLS ON THE STORE

-- words are drawn
drew : (operations : List HandleOperation) (place next drawn : ℕ) (own : Own) → IsOwnPart operations place own → next ≡ place + words_used drawn → IsOwnPart operations next (with_drawn own drawn)
drew operations place next drawn own is more = record { drawn = let d = is.drawn in omega arith; handles = is.handles; each = is.each }

-- by a call on the store in whose turn no device fails
pub stored_own : (service : Service) (caller : ℕ) (outcome : Outcome) (operations : List HandleOperation) (place next : ℕ) → IsSound service → caller ≤ 16 → IsOwnPart operations place (own_of service caller) →
    next ≡ place + words_used outcome.drawn → IsOwnPart operations next (own_of (on_store service caller outcome).service caller)
stored_own service caller outcome operations place next is last own more =
    subst (IsOwnPart operations next) (sym (set_own service outcome.store caller (with_drawn (own_of service caller) outcome.drawn) is last)) (drew operations place next outcome.drawn (own_of service caller) own more)

pub failed_own : (service : Service) (caller : ℕ) (call : Call) → own_of (failed_step service caller (OnStore call)) caller ≡ own_of service caller
failed_own service caller (Destroy id) = refl
failed_own service caller call = refl

-- whether one fails or not, where the call draws nothing
pub undrawn_own : (service : Service) (caller : ℕ) (call : Call) (mark : FaultMark) (operations : List HandleOperation) (place : ℕ) → IsSound service → caller ≤ 16 → IsOwnPart operations place (own_of service caller) →
    (step service.store caller (next_random service caller) call).drawn ≡ 0 → IsOwnPart operations place (own_of (serve service caller (OnStore call) mark).service caller)
undrawn_own service caller call Plain operations place is last own none =
    stored_own service caller (step service.store caller (next_random service caller) call) operations place place is last own (let w : words_used (step service.store caller (next_random service caller) call).drawn ≡ 0 = ap words_used none in omega arith)
undrawn_own service caller call (Storage access) operations place is last own none = subst (IsOwnPart operations place) (sym (failed_own service caller call)) own
undrawn_own service caller call Hardware operations place is last own none = subst (IsOwnPart operations place) (sym (failed_own service caller call)) own
undrawn_own service caller call Corrupt operations place is last own none = subst (IsOwnPart operations place) (sym (failed_own service caller call)) own
