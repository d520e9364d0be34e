-- Two alike stores go on alike: one more call, the same creation or destruction in both, and a change of one that isn't the owner's.
use Rattle.std.proofs.Common.{Bool, List, None, Option, Some, ap, arith, cond, false, get_or, refl, set, subst, sym, true, ℕ, ◌+◌, ◌<◌, ◌==◌, ◌∙◌, ◌≡◌}
use Rattle.owner_space.proofs.Common.{Attributes, IsSoundStore, Key, Owners, Store, counted, created, destroyed, is_volatile, made_of, nat_tests, new_id, new_key, put, taken}
use Rattle.std.specs.FinMap as map
use Rattle.store_model.specs.Store.{first_volatile}
use Rattle.owner_space.proofs.{Alike.AreAlikeStores, Alike.GoOn, Alike.SameKey, Alike.both, Alike.has_number, Alike.is_key, Alike.made_set, Alike.moved, Alike.neither, Owned.IsOwned}

-- A KEY BY ITS NUMBER

-- a new key has no number that was given out
fresh : (new number : ℕ) → number < new → (b : Bool) → (new == number) ≡ b → b ≡ false
fresh new number l true t = grind (arith, nat_tests)
fresh new number l false t = refl

new_or_old : (b : Bool) (new : Key) (number : ℕ) (o : Option Key) → (new.number == number) ≡ false → has_number number (cond b (Some new) o) ≡ cond b false (has_number number o)
new_or_old true new number o e = e
new_or_old false new number o e = refl

gone_or_old : (b : Bool) (number : ℕ) (o : Option Key) → has_number number (cond b None o) ≡ cond b false (has_number number o)
gone_or_old true number o = refl
gone_or_old false number o = refl

key_created : (store : Store) (caller : ℕ) (kept : Attributes) (bytes : List ℕ) (id number : ℕ) → number < store.found + store.calls →
    is_key (created store caller kept bytes).store.keys id number ≡ cond (id == new_id store caller kept) false (is_key store.keys id number)
key_created store caller kept bytes id number l =
    let at : ℕ = new_id store caller kept in
    let new : Key = new_key store caller at kept bytes in
    ap (has_number number) (put store.keys at new id) ∙ new_or_old (id == at) new number (map.get store.keys id) (fresh new.number number l (new.number == number) refl)

key_destroyed : (store : Store) (at id number : ℕ) → is_key (destroyed store at).store.keys id number ≡ cond (id == at) false (is_key store.keys id number)
key_destroyed store at id number = ap (has_number number) (taken store.keys at id) ∙ gone_or_old (id == at) number (map.get store.keys id)

-- THE SAME IS DONE IN BOTH

put_in_both : (b : Bool) (new : Key) (number : ℕ) {x y : Option Key} → SameKey x y → SameKey (cond b (Some new) x) (cond b (Some (record new { number = number })) y)
put_in_both true new number same = both new number
put_in_both false new number same = same

taken_from_both : (b : Bool) {x y : Option Key} → SameKey x y → SameKey (cond b None x) (cond b None y)
taken_from_both true same = neither
taken_from_both false same = same

module _ (owners : Owners) (owner : ℕ) (whole alone : Store) (same : AreAlikeStores owners owner whole alone) where
  pub counted_go : GoOn owners owner whole alone (counted whole) (counted alone)
  counted_go = record { stores = record { settings = same.settings; keys = same.keys; made = same.made }; uses = λ id m n own l k both. both }

  module _ (caller : ℕ) (is : owners caller ≡ owner) (kept : Attributes) where
    id_by : (volatile : Bool) → cond volatile (first_volatile caller + made_of whole caller) kept.id.0 ≡ cond volatile (first_volatile caller + made_of alone caller) kept.id.0
    id_by volatile = ap (λ n. cond volatile (first_volatile caller + n) kept.id.0) (same.made caller is)

    pub same_id : new_id whole caller kept ≡ new_id alone caller kept
    same_id = id_by (is_volatile kept)

  module _ (caller : ℕ) (is : owners caller ≡ owner) (kept : Attributes) (bytes : List ℕ) (h : IsSoundStore whole) (k : IsSoundStore alone) where
    put_at : (q : ℕ) → IsOwned owners owner q → (id : ℕ) → SameKey (map.get (map.insert whole.keys id (new_key whole caller id kept bytes)) q) (map.get (map.insert alone.keys id (new_key alone caller id kept bytes)) q)
    put_at q own id =
        moved (put whole.keys id (new_key whole caller id kept bytes) q) (put alone.keys id (new_key alone caller id kept bytes) q)
        (put_in_both (q == id) (new_key whole caller id kept bytes) (alone.found + alone.calls) (same.keys q own))

    made_by : (volatile : Bool) (c : ℕ) → owners c ≡ owner →
        get_or (cond volatile (set whole.made caller (made_of whole caller + 1)) whole.made) c 0 ≡ get_or (cond volatile (set alone.made caller (made_of alone caller + 1)) alone.made) c 0
    made_by true c own =
        made_set whole.made alone.made caller c (made_of whole caller + 1) (h.callers ∙ sym k.callers) (same.made c own) ∙ ap (λ n. get_or (set alone.made caller (n + 1)) c 0) (same.made caller is)
    made_by false c own = same.made c own

    pub created_go : GoOn owners owner whole alone (created whole caller kept bytes).store (created alone caller kept bytes).store
    created_go = record {
      stores = record {
        settings = same.settings;
        keys = λ q own. subst (λ id. SameKey (map.get (created whole caller kept bytes).store.keys q) (map.get (map.insert alone.keys id (new_key alone caller id kept bytes)) q)) (same_id caller is kept) (put_at q own (new_id whole caller kept));
        made = made_by (is_volatile kept);
      };
      uses = λ id m n own l r both.
          let at = same_id caller is kept in
          key_created whole caller kept bytes id m l ∙ (λ i. cond (id == at i) false (both i)) ∙ sym (key_created alone caller kept bytes id n r);
    }

  pub destroyed_go : (id : ℕ) → GoOn owners owner whole alone (destroyed whole id).store (destroyed alone id).store
  destroyed_go id = record {
    stores = record { settings = same.settings; keys = λ q own. moved (taken whole.keys id q) (taken alone.keys id q) (taken_from_both (q == id) (same.keys q own)); made = same.made };
    uses = λ q m n own l r both. key_destroyed whole id q m ∙ ap (cond (q == id) false) both ∙ sym (key_destroyed alone id q n);
  }

  -- the one alone goes on, and leaves the owner's keys, and how many its callers have made
  pub other_go : (next : Store) → next.settings ≡ whole.settings → ((q : ℕ) → IsOwned owners owner q → map.get next.keys q ≡ map.get whole.keys q) → ((c : ℕ) → owners c ≡ owner → made_of next c ≡ made_of whole c) →
      GoOn owners owner whole alone next alone
  other_go next settings keys made = record {
    stores = record {
      settings = settings ∙ same.settings;
      keys = λ q own. moved (keys q own) refl (same.keys q own);
      made = λ c own. made c own ∙ same.made c own;
    };
    uses = λ id m n own l r both. ap (has_number m) (keys id own) ∙ both;
  }
