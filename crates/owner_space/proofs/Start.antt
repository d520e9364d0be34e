-- At the start a store, and that with one owner's keys alone, are alike to the owner.
use Rattle.std.proofs.Common.{Bool, List, None, Option, Some, ap, arith, cond, false, inl, inr, length, refl, subst, sym, true, ℕ, ◌&&◌, ◌∙◌, ◌≡◌, ◌||◌, ◌≤◌, ◌⊎◌}
use Rattle.owner_space.proofs.Common.{HandleOperation, IsSound, IsSoundOperation, IsSoundStore, IsVolatileOf, Key, KeyMap, Own, Owners, PerRange, Settings, Store, is_in_range, is_low, is_volatile_of, made_of}
use Rattle.std.specs.FinMap as map
use Rattle.owner_space.specs.Isolation.{only}
use Rattle.std.proofs.lemmas.List.{get_or-replicate}
use Rattle.store_model.proofs.Operations.{start_operation, start_own}
use Rattle.store_model.specs.{Handles.service_of, Sound.IsSoundKey, Store.OpenedKey, Store.start_of}
use Rattle.owner_space.proofs.{Alike.AreTwins, Alike.SameKey, Alike.SameOperation, Alike.both, Alike.inactive, Alike.neither, Counts.count, Counts.count_never, Counts.cover_counts, Counts.kept, Counts.same_maps, Owned.IsLow, Owned.IsOwned, Owned.is_range, Owned.place}

-- THE OWNER'S PART OF A STORE IS SOUND

cut_twice : (b c : Bool) (o : Option Key) → cond b (cond c o None) None ≡ cond (b && c) o None
cut_twice true c o = refl
cut_twice false c o = refl

first_of_both : (b c : Bool) → (b && c) ≡ true → (b || false) ≡ true
first_of_both true c e = refl
first_of_both false c e = cc

no_more : (keys : KeyMap) (p q : ℕ → Bool) → count q (map.retain_keys keys p) ≤ count q keys
no_more keys p q =
    let twice : map.retain_keys (map.retain_keys keys p) q ≡ map.retain_keys keys (λ id. q id && p id) = same_maps _ _ (λ id.
    kept q (map.retain_keys keys p) id ∙ ap (λ o. cond (q id) o None) (kept p keys id) ∙ cut_twice (q id) (p id) (map.get keys id) ∙ sym (kept (λ x. q x && p x) keys id)) in
    let same = ap map.len twice in
    let covered = cover_counts (λ id. q id && p id) q (λ id. false) (λ id. first_of_both (q id) (p id)) keys in
    let none = count_never (λ id. false) (λ id t. cc) keys in
    omega arith

was_kept : (b : Bool) (o : Option Key) (key : Key) → cond b o None ≡ Some key → o ≡ Some key
was_kept true o key e = e
was_kept false o key e = cc

module _ (owner : ℕ) (store : Store) (h : IsSoundStore store) where
  was_there : (id : ℕ) (key : Key) → map.get (only owner store).keys id ≡ Some key → map.get store.keys id ≡ Some key
  was_there id key e = was_kept (is_in_range owner id) (map.get store.keys id) key (sym (kept (is_in_range owner) store.keys id) ∙ e)

  key_sound : (id : ℕ) (key : Key) → IsSoundKey store id key → IsSoundKey (only owner store) id key
  key_sound id key k = record {
    identifier = k.identifier;
    given = k.given;
    attributes = k.attributes;
    volatile = λ v. let o = k.volatile v in record { from_first = o.from_first; to_last = o.to_last; made = o.made };
  }

  only_sound : IsSoundStore (only owner store)
  only_sound = record {
    keys = λ id key e. key_sound id key (h.keys id key (was_there id key e));
    numbers = λ id other key same e f n. h.numbers id other key same (was_there id key e) (was_there other same f) n;
    made = h.made;
    live = λ c. let few = h.live c in let less = no_more store.keys (is_in_range owner) (is_volatile_of c) in omega arith;
    persistent = let few = h.persistent in let less = no_more store.keys (is_in_range owner) is_low in omega arith;
    ranges = λ per range. let few = h.ranges per range in let less = no_more store.keys (is_in_range owner) (is_in_range range) in omega arith;
    callers = h.callers;
  }

service_sound : (store : Store) → IsSoundStore store → IsSound (service_of store)
service_sound store h = record {
  store = h;
  operations = start_operation (IsSoundOperation store) store tt;
  handles = start_own (λ (o : Own). length o.operations ≡ 5) store refl;
  callers = refl;
}

-- THE SERVICES ARE TWINS

module _ (settings : Settings) (found : List OpenedKey) (owners : Owners) (owner : ℕ) (sound : IsSoundStore (start_of settings found)) where
  abbrev start : Store
  start = start_of settings found

  -- no caller has made a volatile key
  none_volatile : (id creator : ℕ) → IsLow id ⊎ IsVolatileOf start id creator → IsLow id
  none_volatile id creator (inl low) = low
  none_volatile id creator (inr v) =
      let last = v.to_last in
      let none : made_of start creator ≡ 0 = get_or-replicate 17 creator 0 0 (omega arith) in
      let some = v.made.1 in
      absurd (omega arith)

  cut_key : (id : ℕ) → IsOwned owners owner id → (b : Bool) → is_in_range owner id ≡ b → (o : Option Key) → map.get start.keys id ≡ o → SameKey o (cond b o None)
  cut_key id own true t None e = neither
  cut_key id own false t None e = neither
  cut_key id own true t (Some key) e = both key key.number
  cut_key id own false t (Some key) e = absurd (in_it own (none_volatile id key.creator (place start sound id key e)))
    where
      in_it : IsOwned owners owner id → IsLow id → ⊥
      in_it (inl r) low = let clash = sym t ∙ is_range owner id r in cc
      in_it (inr v) low = let from = v.0 in let to = low.1 in omega arith

  pub start_twins : settings.limits ≡ PerRange → AreTwins owners owner (service_of start) (service_of (only owner start))
  start_twins per = record {
    alike = record {
      stores = record {
        settings = refl;
        keys = λ id own. subst (SameKey (map.get start.keys id)) (sym (kept (is_in_range owner) start.keys id)) (cut_key id own (is_in_range owner id) refl (map.get start.keys id) refl);
        made = λ c own. refl;
      };
      owns = λ c own. record {
        drawn = refl;
        operations = λ n. start_operation (λ (o : HandleOperation). SameOperation owners owner start.keys (only owner start).keys o o) start inactive c n;
      };
    };
    sound = service_sound start sound;
    sound_alone = service_sound (only owner start) (only_sound owner start sound);
    per_range = per;
  }
