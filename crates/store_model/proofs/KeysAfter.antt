-- The keys after a request: each stays until it is destroyed, and each new one obeys the rules.
use Rattle.std.proofs.Common.{Bool, List, None, Ok, Option, Some, ap, arith, cond, false, inl, inr, refl, subst, sym, true, ℕ, ◌==◌, ◌∙◌, ◌≡◌, ◌⊎◌}
use Rattle.store_model.proofs.{Common.Attributes, Common.Destroy, Common.IsSoundStore, Common.Key, Common.KeysStay, Common.OnStore, Common.Request, Common.RulesAreFollowed, Common.Store, Common.after_rules, Common.created, Common.destroyed, Common.first_row, Common.identified, Common.nat_tests, Common.new_id, Common.new_key, Common.room_for_key_rows, Served.request_shape}
use Rattle.std.specs.FinMap as map
use Rattle.store_model.proofs.{Obeyed.AreObeyed, Obeyed.obeyed_again, Obeyed.identified_obeyed, Sound.put, Sound.taken, Sound.left, Sound.new_is_free}

-- EACH STAYS

-- a key is still what the map has, or the request was its destruction, and the map has none
abbrev StaysIn : Request → ℕ → Key → Option Key → Type 0
StaysIn request q key now = (now ≡ Some key) ⊎ ((request ≡ OnStore (Destroy q)) × (now ≡ None))

beside_new : (store : Store) (id q : ℕ) (new key : Key) (b : Bool) → (q == id) ≡ b → map.get store.keys id ≡ None → map.get store.keys q ≡ Some key → cond b (Some new) (map.get store.keys q) ≡ Some key
beside_new store id q new key true t free e =
    let at : id ≡ q = grind (arith, nat_tests) in
    let clash = sym e ∙ ap (map.get store.keys) (sym at) ∙ free in
    cc
beside_new store id q new key false t free e = e

stays_created : (store : Store) (caller : ℕ) (kept : Attributes) (bytes : List ℕ) (q : ℕ) (key : Key) → IsSoundStore store → first_row (room_for_key_rows store caller kept) ≡ None →
    map.get store.keys q ≡ Some key → map.get (created store caller kept bytes).store.keys q ≡ Some key
stays_created store caller kept bytes q key sound room e =
    let id : ℕ = new_id store caller kept in
    let new : Key = new_key store caller id kept bytes in
    put store.keys id new q ∙ beside_new store id q new key (q == id) refl (new_is_free store caller kept sound room) e

beside_destroyed : (request : Request) (id q : ℕ) (key : Key) (there : Option Key) (b : Bool) → (q == id) ≡ b → request ≡ OnStore (Destroy id) → there ≡ Some key → StaysIn request q key (cond b None there)
beside_destroyed request id q key there true t is e = let at : id ≡ q = grind (arith, nat_tests) in inr (is ∙ ap (λ (n : ℕ). OnStore (Destroy n)) at, refl)
beside_destroyed request id q key there false t is e = inl e

stays_destroyed : (store : Store) (request : Request) (id q : ℕ) (key : Key) → request ≡ OnStore (Destroy id) → map.get store.keys q ≡ Some key →
    StaysIn request q key (map.get (destroyed store id).store.keys q)
stays_destroyed store request id q key is e =
    subst (StaysIn request q key) (sym (taken store.keys id q)) (beside_destroyed request id q key (map.get store.keys q) (q == id) refl is e)

pub keys_stay : KeysStay
keys_stay service caller request mark q key sound e = request_shape service caller (λ served. StaysIn request q key (map.get served.service.store.keys q)) request mark (record {
  counted_too = λ own reply is quiet. inl e;
  created_too = λ own kept bytes is made. inl (stays_created service.store caller kept bytes q key sound.store made.may.room e);
  destroyed_too = λ own reply id is quiet on. stays_destroyed service.store request id q key on e;
})

-- NEW ONES OBEY

-- what the map has is what it had, or obeys the rules
abbrev ObeysOrWas : Store → ℕ → Key → Store → Type 0
ObeysOrWas before q key after =
    map.get after.keys q ≡ Some key → (map.get before.keys q ≡ Some key) ⊎ (after_rules before.settings.labels key.attributes ≡ Ok key.attributes)

new_or_was : (store : Store) (kept : Attributes) (id q : ℕ) (new key : Key) → new.attributes ≡ identified kept id → AreObeyed store.settings.labels kept → (b : Bool) → cond b (Some new) (map.get store.keys q) ≡ Some key →
    (map.get store.keys q ≡ Some key) ⊎ (after_rules store.settings.labels key.attributes ≡ Ok key.attributes)
new_or_was store kept id q new key same obeyed true e =
    let is : new ≡ key = cc in
    let labels = store.settings.labels in
    inr (subst (λ (a : Attributes). after_rules labels a ≡ Ok a) (sym same ∙ ap (λ (k : Key). k.attributes) is) (obeyed_again labels (identified kept id) (identified_obeyed labels kept id obeyed)))
new_or_was store kept id q new key same obeyed false e = inl e

created_obeys : (store : Store) (caller : ℕ) (kept : Attributes) (bytes : List ℕ) (q : ℕ) (key : Key) → AreObeyed store.settings.labels kept → ObeysOrWas store q key (created store caller kept bytes).store
created_obeys store caller kept bytes q key obeyed e =
    let id : ℕ = new_id store caller kept in
    let new : Key = new_key store caller id kept bytes in
    new_or_was store kept id q new key refl obeyed (q == id) (sym (put store.keys id new q) ∙ e)

destroyed_was : (store : Store) (id q : ℕ) (key : Key) → ObeysOrWas store q key (destroyed store id).store
destroyed_was store id q key e = inl (left (q == id) _ key (sym (taken store.keys id q) ∙ e))

pub rules_followed : RulesAreFollowed
rules_followed service caller request mark q key = request_shape service caller (λ served. ObeysOrWas service.store q key served.service.store) request mark (record {
  counted_too = λ own reply is quiet e. inl e;
  created_too = λ own kept bytes is made. created_obeys service.store caller kept bytes q key made.may.rules;
  destroyed_too = λ own reply id is quiet on. destroyed_was service.store id q key;
})
