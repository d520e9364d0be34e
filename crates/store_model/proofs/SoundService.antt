-- Each request keeps a service sound.
use Rattle.std.proofs.Common.{inl, inr, ◌⊎◌, Bool, None, Option, Some, ap, arith, false, length, refl, subst, sym, true, ℕ, ◌==◌, ◌∙◌, ◌≡◌}
use Rattle.store_model.proofs.Common.{Active, AliveByNumber, HandleOperation, HasNumber, InError, Inactive, IsSound, IsSoundCreation, IsSoundOperation, IsSoundStore, IsSoundUse, Key, KeyCreation, Own, Request, Service, StartsSound, StaysSound, Store, counted, created, destroyed, key_of_operation, nat_tests, operation_of, option_map_or, own_of, start_of, with_own}
use Rattle.std.specs.FinMap as map
use Rattle.store_model.proofs.{Recorded.MayBeKept, Starts.store_starts, Sound.counted_sound, Sound.created_sound, Sound.destroyed_sound, Follows.Follows, Follows.counted_follows, Follows.created_follows, Follows.destroyed_follows, Follows.operation_follows, Served.IsOwnAfter, Served.SetsOne, Served.request_shape}
use Rattle.store_model.proofs.Operations.{any_operation, operations_same, same_callers, same_handles, set_length, start_own, start_operation}

-- the store goes on, and with it what is a caller's own
own_sound : (service : Service) (after : Store) (caller : ℕ) (request : Request) (own : Own) → IsOwnAfter service caller request own → Follows service.store after → IsSoundStore after → IsSound service →
    IsSound (with_own service after caller own)
own_sound service after caller request own is f store h = of is.operations
  where
    each : (c n : ℕ) → IsSoundOperation after (operation_of service c n)
    each c n = operation_follows service.store after f (operation_of service c n) (h.operations c n)

    of : (own.operations ≡ (own_of service caller).operations) ⊎ SetsOne service caller request own → IsSound (with_own service after caller own)
    of (inl same) = record {
      store = store;
      operations = λ c n. subst (IsSoundOperation after) (sym (operations_same service after caller own same c n)) (each c n);
      handles = λ c. same_handles service after caller own c 5 (ap length same) (h.handles c);
      callers = same_callers service after caller own ∙ h.callers;
    }
    of (inr set) = record {
      store = store;
      operations = any_operation (IsSoundOperation after) service after caller set.handle set.operation own set.sets (operation_follows service.store after f set.operation (set.sound h)) each;
      handles = λ c. same_handles service after caller own c 5 (set_length service caller set.handle set.operation own set.sets) (h.handles c);
      callers = same_callers service after caller own ∙ h.callers;
    }

pub stays : StaysSound
stays service caller request mark first last h = request_shape service caller (λ served. IsSound served.service) request mark (record {
  counted_too = λ own reply is quiet. own_sound service (counted service.store) caller request own is (counted_follows service.store) (counted_sound service.store h.store) h;
  created_too = λ own kept bytes is made. own_sound service (created service.store caller kept bytes).store caller request own is (created_follows service.store caller kept bytes)
      (created_sound service.store caller kept bytes first last h.store (subst (MayBeKept service.store caller kept) (sym (made.long h)) made.may)) h;
  destroyed_too = λ own reply id is quiet on.
      own_sound service (destroyed service.store id).store caller request own is (destroyed_follows service.store id) (destroyed_sound service.store id h.store) h;
})

pub starts : StartsSound
starts settings found are few room = record {
  store = store_starts settings found are few room;
  operations = start_operation (IsSoundOperation (start_of settings found)) (start_of settings found) tt;
  handles = start_own (λ (o : Own). length o.operations ≡ 5) (start_of settings found) refl;
  callers = refl;
}

-- ALIVE BY NUMBER

abbrev is_creation : KeyCreation → Option Key → Bool
is_creation creation found = option_map_or (λ key. key.number == creation.number) found false

creation_of_operation : (store : Store) (operation : HandleOperation) (creation : KeyCreation) → IsSoundOperation store operation → key_of_operation operation ≡ Some creation → IsSoundCreation store creation
creation_of_operation store (Active held) creation h e = subst (IsSoundUse store) e h.key
creation_of_operation store Inactive creation h e = cc
creation_of_operation store InError creation h e = cc

there : (store : Store) (creation : KeyCreation) (found : Option Key) → map.get store.keys creation.id ≡ found → is_creation creation found ≡ true → HasNumber store creation.number
there store creation (Some key) e h = (creation.id, key, e, grind (arith, nat_tests))
there store creation None e h = cc

same_number : (key : Key) (creation : KeyCreation) → key.number ≡ creation.number → is_creation creation (Some key) ≡ true
same_number key creation e = grind (arith, nat_tests)

pub by_number : AliveByNumber
by_number service h caller handle creation e =
    let sound = creation_of_operation service.store (operation_of service caller handle) creation (h.operations caller handle) e in (
      λ alive. there service.store creation (map.get service.store.keys creation.id) refl alive,
      λ has. ap (is_creation creation) (ap (map.get service.store.keys) (sym (sound.identifier has.0 has.1 has.2 has.3)) ∙ has.2) ∙ same_number has.1 creation has.3,
    )
