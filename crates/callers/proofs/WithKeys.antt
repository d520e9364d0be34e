-- What the one-thread service makes of a call in one part with a key.
use Rattle.callers.proofs.Common.{Call, Err, FaultMark, HandleOperation, IsLent, IsOwnPart, IsRefused, IsSound, KeyUse, KeyedCall, List, OnStore, Outcome, Plain, Random, Reading, Service, Some, Status, Store, [], ap, arith, bytes_of, computed_by, computed_unless, counted, false, id_read, is_of_element, is_opaque_key, keyed, mark_of, may_change_keys, model_keyed_call, next_random, own_of, refused, serve, step, subst, sym, true, use_refusal, wanted_by, with_computed, words_used, ℕ, ◌∙◌, ◌≡◌, ◌≤◌, service_of, start_of}
use Rattle.store_model.specs.declared.limits.Limits.TheVariants.{Whole}
use Rattle.std.specs.FinMap as map
use Rattle.psa_status.specs.declared.Status.TheVariants as status
use Rattle.store_model.specs.KeyUse as held
use Rattle.single_part.proofs.Keys.{keyed as reads}
use Rattle.callers.proofs.{KeyReplies.Gives, KeyReplies.refusal_gives, Owned.failed_own, Owned.stored_own}

-- the key of an identifier isn't the secure element's, or that doesn't compute such calls
abbrev pub IsLocal : KeyedCall → (id : ℕ) → Store → Type 0
IsLocal asked id store = is_of_element asked ≡ true → is_opaque_key (map.get store.keys id) ≡ false

-- such a call changes no key
pub quiet_call : (asked : KeyedCall) (id room : ℕ) → may_change_keys (OnStore (model_keyed_call asked id room)) ≡ false
quiet_call asked id room = (reads (service_of (start_of (record { seed = []; labels = []; locations = []; limits = Whole }) [])) 1 asked id room).1

-- and reads that key
pub reads_call : (service : Service) (caller : ℕ) (asked : KeyedCall) (id room : ℕ) → id_read service caller (OnStore (model_keyed_call asked id room)) ≡ Some id
reads_call service caller asked id room = (reads service caller asked id room).0

-- what a call is served so leaves a caller's own part, and answers
pub record IsRefusal (service : Service) (caller : ℕ) (call : Call) (mark : FaultMark) (why : Status) : Type 0 where
  pub gives : Gives (Err why) (serve service caller (OnStore call) mark).reply
  pub own : (operations : List HandleOperation) (place : ℕ) → IsSound service → caller ≤ 16 → IsOwnPart operations place (own_of service caller) → IsOwnPart operations place (own_of (serve service caller (OnStore call) mark).service caller)

module _ (asked : KeyedCall) (id room : ℕ) (wanted : KeyUse) (uses : wanted ≡ wanted_by asked) where
  -- a call by what it looks its key for
  of_use : (store : Store) (caller : ℕ) (random : Random) → IsLocal asked id store →
      step store caller random (model_keyed_call asked id room)
      ≡ with_computed store (computed_unless (use_refusal wanted (map.get store.keys id)) (computed_by asked (held.bytes_of_key (map.get store.keys id)) random room))
  of_use store caller random local =
      keyed store caller random asked id room local
      ∙ ap (λ usage. with_computed store (computed_unless (use_refusal usage (map.get store.keys id)) (computed_by asked (held.bytes_of_key (map.get store.keys id)) random room))) (sym uses)

  -- the key is lent
  pub lent_step : (store : Store) (caller : ℕ) (random : Random) (lease : Reading) → IsLocal asked id store → IsLent (use_refusal wanted) id lease (counted store) →
      step store caller random (model_keyed_call asked id room) ≡ with_computed store (computed_by asked (bytes_of lease.buffer) random room)
  lent_step store caller random lease local lent =
      of_use store caller random local
      ∙ (ap (λ found. with_computed store (computed_unless (use_refusal wanted found) (computed_by asked (held.bytes_of_key found) random room))) lent.1
      ∙ (ap (λ row. with_computed store (computed_unless row (computed_by asked lent.0.bytes random room))) lent.2
      ∙ ap (λ bytes. with_computed store (computed_by asked bytes random room)) (sym lent.3.bytes)))

  -- a row refuses the use
  refused_step : (store : Store) (caller : ℕ) (random : Random) (why : Status) → IsLocal asked id store → use_refusal wanted (map.get store.keys id) ≡ Some why →
      step store caller random (model_keyed_call asked id room) ≡ refused store why
  refused_step store caller random why local row =
      of_use store caller random local ∙ ap (λ o. with_computed store (computed_unless o (computed_by asked (held.bytes_of_key (map.get store.keys id)) random room))) row

  plain_refusal : (service : Service) (caller : ℕ) (why : Status) → step service.store caller (next_random service caller) (model_keyed_call asked id room) ≡ refused service.store why →
      IsRefusal service caller (model_keyed_call asked id room) Plain why
  plain_refusal service caller why same = record {
    gives = subst (λ (o : Outcome). Gives (Err why) o.reply) (sym same) (refusal_gives why);
    own = λ operations place sound last own.
        let none : words_used (step service.store caller (next_random service caller) (model_keyed_call asked id room)).drawn ≡ 0 = ap (λ (o : Outcome). words_used o.drawn) same in
        stored_own service caller (step service.store caller (next_random service caller) (model_keyed_call asked id room)) operations place place sound last own (omega arith);
  }

  -- no key is lent
  pub refusal_of : (service : Service) (caller : ℕ) (why : Status) → IsLocal asked id service.store → IsRefused (use_refusal wanted) id why (counted service.store) → IsRefusal service caller (model_keyed_call asked id room) (mark_of why) why
  refusal_of service caller status.StorageFailure local row = record {
    gives = refusal_gives status.StorageFailure;
    own = λ operations place sound last own. subst (IsOwnPart operations place) (sym (failed_own service caller (model_keyed_call asked id room))) own;
  }
  refusal_of service caller status.DataCorrupt local row = record {
    gives = refusal_gives status.DataCorrupt;
    own = λ operations place sound last own. subst (IsOwnPart operations place) (sym (failed_own service caller (model_keyed_call asked id room))) own;
  }
  refusal_of service caller why local row = plain_refusal service caller why (refused_step service.store caller (next_random service caller) why local row)
