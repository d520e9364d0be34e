-- A call of a caller on its own volatile keys: what it answers, and what it leaves, is decided by what the caller sees.
use Rattle.std.proofs.Common.{rules, Bool, Err, List, None, Ok, Option, Result, Some, [], ap, arith, cond, eqb-true, false, inl, inr, is_some, length, not, refl, slice_set, subst, sym, true, ℕ, ◌&&◌, ◌*◌, ◌+◌, ◌-◌, ◌/◌, ◌<◌, ◌==◌, ◌^◌, ◌∙◌, ◌∷◌, ◌≡◌}
use Rattle.line_generator.proofs.Common.{Attributes, bytes_of_key, cipher_usage, CipherEncrypt, compute_rows, Computed, computed_unless, cond-false, counted, created, created_unless, decided, Destroy, destroy_rows, destroyed, encrypt_rows, encrypted, Export, export_reply, export_rows, false_from_ne_true, first_row, given, id_given, Identifier, Import, InvalidHandle, is_ctr, is_volatile, is_volatile_of, iv_length, Key, length-set, live_volatile, mac_reply, mac_usage, MacCompute, made_of, mode_of, nat_tests, new_id, new_key, on_store, OnStore, Outcome, Own, Plain, put, recorded_of, refused, replies, reply_unless, Request, room_for_key_rows, serve, Served, Service, Settings, Status, Store, Success, taken, use_rows, with_computed}
use Rattle.std.specs.FinMap as map
use Rattle.alg_encoding.specs.{declared.table.Class.Class, declared.table.Class.TheVariants.Cipher, declared.table.Class.TheVariants.Mac}
use Rattle.random_streams.specs.RandomWords.{random_bytes}
use Rattle.store_model.proofs.Others.{leaves_callers, leaves_settings}
use Rattle.line_generator.proofs.{Maps.len_inserted, Maps.len_removed, Alike.Alike, Alike.AlikeStores, Alike.NoZero, Alike.OwnId, Alike.looked, Alike.after_both, Alike.plain, Alike.some_of, Imports.recorded_same, Imports.recorded_volatile, Imports.created_same}

-- the calls that the generator's lines make
pub data KeyCall : Type 0 where
  Imports : (attributes : Attributes) (bytes : List ℕ) → KeyCall
  Exports : (id room : ℕ) → KeyCall
  Signs : (id alg : ℕ) (input : List ℕ) (room : ℕ) → KeyCall
  Encrypts : (id alg : ℕ) (input : List ℕ) (room : ℕ) → KeyCall
  Destroys : (id : ℕ) → KeyCall

abbrev pub asked : KeyCall → Request
asked (Imports attributes bytes) = OnStore (Import attributes bytes)
asked (Exports id room) = OnStore (Export id room)
asked (Signs id alg input room) = OnStore (MacCompute id alg input room)
asked (Encrypts id alg input room) = OnStore (CipherEncrypt id alg input room)
asked (Destroys id) = OnStore (Destroy id)

-- such a call on a caller's own volatile keys, or a creation of one
abbrev pub IsOwn : ℕ → KeyCall → Type 0
IsOwn caller (Imports attributes bytes) = is_volatile attributes ≡ true
IsOwn caller (Exports id room) = OwnId caller id
IsOwn caller (Signs id alg input room) = OwnId caller id
IsOwn caller (Encrypts id alg input room) = OwnId caller id
IsOwn caller (Destroys id) = OwnId caller id

-- BY THE CALLER

pub record SameStep (caller : ℕ) (one other : Served) : Type 0 where
  pub reply : one.reply ≡ other.reply
  pub alike : Alike caller one.service other.service

counted_both : (caller : ℕ) (a b : Service) → Alike caller a b → AlikeStores caller (counted a.store) (counted b.store)
counted_both caller a b h = let s = h.stores in record { made = s.made; mades = s.mades; settings = s.settings; keys = s.keys; live = s.live }

reading : (caller : ℕ) (a b : Service) (c d : Computed) → Alike caller a b → c ≡ d →
    SameStep caller (on_store a caller (with_computed a.store c)) (on_store b caller (with_computed b.store d))
reading caller a b c d h e = record {
  reply = ap (λ (x : Computed). x.reply) e;
  alike = after_both caller a b (with_computed a.store c) (with_computed b.store d) h (ap (λ (x : Computed). x.drawn) e) (counted_both caller a b h);
}

-- what is computed with a key doesn't see its number

export_plain : (found : Option Key) (room : ℕ) → export_reply found room ≡ export_reply (plain found) room
export_plain None room = refl
export_plain (Some key) room = refl

used_by : Bool → Class → (usage alg : ℕ) → (List ℕ → Computed) → Option Key → Computed
used_by on_device class usage alg compute found = computed_unless (first_row (use_rows on_device class usage alg found)) (compute (bytes_of_key found))

used_plain : (on_device : Bool) (class : Class) (usage alg : ℕ) (compute : List ℕ → Computed) (found : Option Key) →
    used_by on_device class usage alg compute found ≡ used_by on_device class usage alg compute (plain found)
unfolding used_by
used_plain on_device class usage alg compute None = refl
used_plain on_device class usage alg compute (Some key) = refl

used_same : (on_device : Bool) (class : Class) (usage alg : ℕ) (compute compute' : List ℕ → Computed) (o p : Option Key) → plain o ≡ plain p → compute ≡ compute' →
    used_by on_device class usage alg compute o ≡ used_by on_device class usage alg compute' p
used_same on_device class usage alg compute compute' o p e f =
    used_plain on_device class usage alg compute o ∙ (λ i. used_by on_device class usage alg (f i) (e i)) ∙ sym (used_plain on_device class usage alg compute' p)

-- what an import leaves

made_by : (caller : ℕ) (a b : Service) (bytes : List ℕ) (r : Result Attributes Status) → Alike caller a b →
    SameStep caller (on_store a caller (created_unless a.store caller r bytes)) (on_store b caller (created_unless b.store caller r bytes))
made_by caller a b bytes (Ok kept) h =
    let both = created_same caller a.store b.store kept bytes h.stores in
    record {
      reply = λ i. record { status = Success; output = Identifier (both.0 i); needed = 0 };
      alike = after_both caller a b (created a.store caller kept bytes) (created b.store caller kept bytes) h refl both.1;
    }
made_by caller a b bytes (Err s) h = record { reply = refl; alike = after_both caller a b (refused a.store s) (refused b.store s) h refl (counted_both caller a b h) }

imported : (caller : ℕ) (a b : Service) (attributes : Attributes) (bytes : List ℕ) → is_volatile attributes ≡ true → Alike caller a b →
    SameStep caller (serve a caller (OnStore (Import attributes bytes)) Plain) (serve b caller (OnStore (Import attributes bytes)) Plain)
imported caller a b attributes bytes v h =
    subst (λ r. SameStep caller (serve a caller (OnStore (Import attributes bytes)) Plain) (on_store b caller (created_unless b.store caller r bytes)))
    (recorded_same caller a.store b.store attributes (length bytes) h.stores v)
    (made_by caller a b bytes (recorded_of a.store caller attributes (length bytes)) h)

-- what a destruction leaves

plain_none : (b : Bool) (o p : Option Key) → plain o ≡ plain p → plain (cond b None o) ≡ plain (cond b None p)
plain_none true o p e = refl
plain_none false o p e = e

fewer_same : (own one other : Bool) (n m : ℕ) → (own ≡ true → one ≡ other) → n ≡ m → cond own (cond one (n - 1) n) n ≡ cond own (cond other (m - 1) m) m
fewer_same true one other n m e f = λ i. cond (e refl i) (f i - 1) (f i)
fewer_same false one other n m e f = f

destroyed_same : (caller id : ℕ) (a b : Service) → Alike caller a b → AlikeStores caller (destroyed a.store id).store (destroyed b.store id).store
destroyed_same caller id a b h = let s = h.stores in record {
  made = s.made;
  mades = s.mades;
  settings = s.settings;
  keys = λ q own. ap plain (taken a.store.keys id q) ∙ plain_none (q == id) _ _ (s.keys q own) ∙ sym (ap plain (taken b.store.keys id q));
  live =
      len_removed (is_volatile_of caller) a.store.keys id
      ∙ fewer_same (is_volatile_of caller id) _ _ _ _ (λ own. some_of _ _ (s.keys id own)) s.live
      ∙ sym (len_removed (is_volatile_of caller) b.store.keys id);
}

decided_by : (caller id : ℕ) (a b : Service) (refusal : Option Status) → Alike caller a b →
    SameStep caller (on_store a caller (decided a.store refusal (destroyed a.store id))) (on_store b caller (decided b.store refusal (destroyed b.store id)))
decided_by caller id a b None h = record { reply = refl; alike = after_both caller a b (destroyed a.store id) (destroyed b.store id) h refl (destroyed_same caller id a b h) }
decided_by caller id a b (Some s) h = record { reply = refl; alike = after_both caller a b (refused a.store s) (refused b.store s) h refl (counted_both caller a b h) }

removed : (caller id : ℕ) (a b : Service) → Alike caller a b → is_some (map.get a.store.keys id) ≡ is_some (map.get b.store.keys id) →
    SameStep caller (serve a caller (OnStore (Destroy id)) Plain) (serve b caller (OnStore (Destroy id)) Plain)
removed caller id a b h e =
    subst (λ o. SameStep caller (serve a caller (OnStore (Destroy id)) Plain) (on_store b caller (decided b.store o (destroyed b.store id))))
    (λ i. first_row ((not (id == 0) && not (e i), InvalidHandle) ∷ []))
    (decided_by caller id a b (first_row (destroy_rows (map.get a.store.keys id) id)) h)

pub own_step : (caller : ℕ) (a b : Service) (call : KeyCall) → IsOwn caller call → NoZero a → NoZero b → Alike caller a b →
    SameStep caller (serve a caller (asked call) Plain) (serve b caller (asked call) Plain)
unfolding used_by
own_step caller a b (Imports attributes bytes) own za zb h = imported caller a b attributes bytes own h
own_step caller a b (Exports id room) own za zb h =
    let e = looked caller a b id h za zb own in
    let same = export_plain (map.get a.store.keys id) room ∙ (λ i. export_reply (e i) room) ∙ sym (export_plain (map.get b.store.keys id) room) in
    reading caller a b _ _ h (ap replies same)
own_step caller a b (Signs id alg input room) own za zb h =
    reading caller a b _ _ h (used_same true Mac (mac_usage false) alg (λ key. replies (mac_reply alg key input room)) _ _ _ (looked caller a b id h za zb own) refl)
own_step caller a b (Encrypts id alg input room) own za zb h =
    let random = λ (settings : Settings) (o : Own) (n : ℕ). random_bytes settings.seed caller o.drawn n in
    reading caller a b _ _ h (used_same (is_ctr (mode_of alg)) Cipher (cipher_usage true) alg _ _ _ _ (looked caller a b id h za zb own)
    (λ i key. encrypted (mode_of alg) (random (h.stores.settings i) (h.own i) (iv_length (mode_of alg))) key input room))
own_step caller a b (Destroys id) own za zb h = removed caller id a b h (some_of _ _ (looked caller a b id h za zb own))

-- BY ANOTHER CALLER

of_zero : (caller : ℕ) → (0 / 2 ^ 20 == 1024 + caller) ≡ true → ⊥
of_zero caller t = grind (arith, nat_tests)

one_place : (q one other : ℕ) → (q == 1024 + one) ≡ true → (q == 1024 + other) ≡ true → one ≡ other
one_place q one other t u = grind (arith, nat_tests)

no_other : (caller other id : ℕ) → (other ≡ caller → ⊥) → OwnId caller id → is_volatile_of other id ≡ true → ⊥
no_other caller other id apart (inl zero) t = of_zero other (subst (λ n. is_volatile_of other n ≡ true) zero t)
no_other caller other id apart (inr own) t = apart (one_place (id / 2 ^ 20) other caller t own)

-- no identifier of one caller's keys is one of another's
beside : (caller other id : ℕ) → (other ≡ caller → ⊥) → OwnId caller id → is_volatile_of other id ≡ false
beside caller other id apart own = false_from_ne_true _ (no_other caller other id apart own)

apart_from : (caller other q id : ℕ) → (other ≡ caller → ⊥) → OwnId caller id → is_volatile_of other q ≡ true → (q == id) ≡ false
apart_from caller other q id apart own t = false_from_ne_true _ (λ e. no_other caller other id apart own (subst (λ n. is_volatile_of other n ≡ true) (eqb-true q id e) t))

new_place : (caller made : ℕ) → made < 2 ^ 20 → ((0x40000000 + caller * 2 ^ 20 + made) / 2 ^ 20 == 1024 + caller) ≡ true
new_place caller made h = let e : (0x40000000 + caller * 2 ^ 20 + made) / 2 ^ 20 ≡ 1024 + caller = omega arith in grind (arith, nat_tests)

pub new_own : (store : Store) (caller : ℕ) (kept : Attributes) → is_volatile kept ≡ true → first_row (room_for_key_rows store caller kept) ≡ None → is_volatile_of caller (new_id store caller kept) ≡ true
new_own store caller kept v room = search rules

-- what a call of one caller leaves of another's keys
record Leaves (other : ℕ) (before after : Store) : Type 0 where
  mades : length after.made ≡ length before.made
  keys : (q : ℕ) → is_volatile_of other q ≡ true → map.get after.keys q ≡ map.get before.keys q
  live : live_volatile after.keys other ≡ live_volatile before.keys other

leaves_counted : (other : ℕ) (store : Store) → Leaves other store (counted store)
leaves_counted other store = record { mades = refl; keys = λ q t. refl; live = refl }

length_made : (xs : List ℕ) (caller n : ℕ) (volatile : Bool) → length (cond volatile (slice_set xs caller n) xs) ≡ length xs
length_made xs caller n true = length-set xs caller n
length_made xs caller n false = refl

leaves_created : (caller other : ℕ) (store : Store) (kept : Attributes) (bytes : List ℕ) → (other ≡ caller → ⊥) → is_volatile_of caller (new_id store caller kept) ≡ true →
    Leaves other store (created store caller kept bytes).store
leaves_created caller other store kept bytes apart own =
    let id : ℕ = new_id store caller kept in
    let new : Key = new_key store caller id kept bytes in
    record {
      mades = length_made store.made caller (made_of store caller + 1) (is_volatile kept);
      keys = λ q t. put store.keys id new q ∙ ap (λ b. cond b (Some new) (map.get store.keys q)) (apart_from caller other q id apart (inr own) t);
      live = len_inserted (is_volatile_of other) store.keys id new ∙ cond-false _ _ _ (beside caller other id apart (inr own));
    }

leaves_destroyed : (caller other id : ℕ) (store : Store) → (other ≡ caller → ⊥) → OwnId caller id → Leaves other store (destroyed store id).store
leaves_destroyed caller other id store apart own = record {
  mades = refl;
  keys = λ q t. taken store.keys id q ∙ ap (λ b. cond b None (map.get store.keys q)) (apart_from caller other q id apart own t);
  live = len_removed (is_volatile_of other) store.keys id ∙ cond-false _ _ _ (beside caller other id apart own);
}

-- what holds of a creation and of a refusal holds of what is created unless it is refused, and so of a destruction
created_or : (store : Store) (caller : ℕ) (bytes : List ℕ) (r : Result Attributes Status) (P : Outcome → Type 0) → ((kept : Attributes) → r ≡ Ok kept → P (created store caller kept bytes)) →
    ((s : Status) → P (refused store s)) → P (created_unless store caller r bytes)
created_or store caller bytes (Ok kept) P made not_made = made kept refl
created_or store caller bytes (Err s) P made not_made = not_made s

destroyed_or : (store : Store) (id : ℕ) (refusal : Option Status) (P : Outcome → Type 0) → P (destroyed store id) → ((s : Status) → P (refused store s)) → P (decided store refusal (destroyed store id))
destroyed_or store id None P gone stays = gone
destroyed_or store id (Some s) P gone stays = stays s

pub new_of : (service : Service) (caller : ℕ) (attributes : Attributes) (bytes : List ℕ) → is_volatile attributes ≡ true → (kept : Attributes) →
    recorded_of service.store caller attributes (length bytes) ≡ Ok kept → is_volatile_of caller (new_id service.store caller kept) ≡ true
new_of service caller attributes bytes v kept e =
    let is = recorded_volatile service.store caller attributes kept (length bytes) v e in new_own service.store caller kept is.0 is.1

leaves : (caller other : ℕ) (a : Service) (call : KeyCall) → (other ≡ caller → ⊥) → IsOwn caller call → Leaves other a.store (serve a caller (asked call) Plain).service.store
leaves caller other a (Imports attributes bytes) apart own =
    created_or a.store caller bytes (recorded_of a.store caller attributes (length bytes)) (λ out. Leaves other a.store out.store)
    (λ kept e. leaves_created caller other a.store kept bytes apart (new_of a caller attributes bytes own kept e)) (λ s. leaves_counted other a.store)
leaves caller other a (Destroys id) apart own =
    destroyed_or a.store id (first_row (destroy_rows (map.get a.store.keys id) id)) (λ out. Leaves other a.store out.store) (leaves_destroyed caller other id a.store apart own) (λ s. leaves_counted other a.store)
leaves caller other a call apart own = leaves_counted other a.store

owns_same : (caller : ℕ) (a : Service) (call : KeyCall) → length (serve a caller (asked call) Plain).service.owns ≡ length a.owns
owns_same caller a (Imports attributes bytes) = length-set a.owns caller _
owns_same caller a (Exports id room) = length-set a.owns caller _
owns_same caller a (Signs id alg input room) = length-set a.owns caller _
owns_same caller a (Encrypts id alg input room) = length-set a.owns caller _
owns_same caller a (Destroys id) = length-set a.owns caller _

pub other_step : (caller other : ℕ) (a b : Service) (call : KeyCall) → (other ≡ caller → ⊥) → IsOwn caller call → Alike other a b →
    Alike other (serve a caller (asked call) Plain).service b
other_step caller other a b call apart own h =
    let left = leaves_callers a caller other (asked call) Plain apart in
    let rest : Leaves other a.store (serve a caller (asked call) Plain).service.store = leaves caller other a call apart own in
    record {
      own = left.0 ∙ h.own;
      owns = owns_same caller a call ∙ h.owns;
      stores = record {
        made = left.1 ∙ h.stores.made;
        mades = rest.mades ∙ h.stores.mades;
        settings = (leaves_settings a caller (asked call) Plain).0 ∙ h.stores.settings;
        keys = λ q t. ap plain (rest.keys q t) ∙ h.stores.keys q t;
        live = rest.live ∙ h.stores.live;
      };
    }

-- THE IDENTIFIER 0

zero_apart : (caller id : ℕ) → is_volatile_of caller id ≡ true → (0 == id) ≡ false
zero_apart caller id t = false_from_ne_true _ (λ e. of_zero caller (subst (λ n. is_volatile_of caller n ≡ true) (sym (eqb-true 0 id e)) t))

zero_made : (store : Store) (caller : ℕ) (bytes : List ℕ) (kept : Attributes) → map.get store.keys 0 ≡ None → is_volatile_of caller (new_id store caller kept) ≡ true →
    map.get (created store caller kept bytes).store.keys 0 ≡ None
zero_made store caller bytes kept z own =
    let id : ℕ = new_id store caller kept in
    put store.keys id (new_key store caller id kept bytes) 0 ∙ rw (zero_apart caller id own) z

none_left : (b : Bool) (o : Option Key) → o ≡ None → cond b None o ≡ None
none_left true o e = refl
none_left false o e = e

pub zero_stays : (caller : ℕ) (a : Service) (call : KeyCall) → IsOwn caller call → NoZero a → NoZero (serve a caller (asked call) Plain).service
zero_stays caller a (Imports attributes bytes) own z =
    created_or a.store caller bytes (recorded_of a.store caller attributes (length bytes)) (λ out. map.get out.store.keys 0 ≡ None)
    (λ kept e. zero_made a.store caller bytes kept z (new_of a caller attributes bytes own kept e)) (λ s. z)
zero_stays caller a (Destroys id) own z =
    destroyed_or a.store id (first_row (destroy_rows (map.get a.store.keys id) id)) (λ out. map.get out.store.keys 0 ≡ None) (taken a.store.keys id 0 ∙ none_left (0 == id) _ z) (λ s. z)
zero_stays caller a call own z = z

-- WHAT IS GIVEN

given_bytes : (refusal : Option Status) (bytes : List ℕ) → id_given (reply_unless refusal (given bytes)).output ≡ 0
given_bytes None bytes = refl
given_bytes (Some s) bytes = refl

given_computed : (refusal : Option Status) (computed : Computed) → id_given computed.reply.output ≡ 0 → id_given (computed_unless refusal computed).reply.output ≡ 0
given_computed None computed e = e
given_computed (Some s) computed e = refl

pub given_own : (caller : ℕ) (a : Service) (call : KeyCall) → IsOwn caller call → OwnId caller (id_given (serve a caller (asked call) Plain).reply.output)
given_own caller a (Imports attributes bytes) own =
    created_or a.store caller bytes (recorded_of a.store caller attributes (length bytes)) (λ out. OwnId caller (id_given out.reply.output)) (λ kept e. inr (new_of a caller attributes bytes own kept e)) (λ s. inl refl)
given_own caller a (Exports id room) own = inl (given_bytes (first_row (export_rows (map.get a.store.keys id) room)) (bytes_of_key (map.get a.store.keys id)))
given_own caller a (Signs id alg input room) own =
    let found : Option Key = map.get a.store.keys id in
    inl (given_computed (first_row (use_rows true Mac (mac_usage false) alg found)) (replies (mac_reply alg (bytes_of_key found) input room)) (given_bytes (first_row (compute_rows alg (length input) room)) _))
given_own caller a (Encrypts id alg input room) own =
    let found : Option Key = map.get a.store.keys id in
    let mode = mode_of alg in
    inl (given_computed (first_row (use_rows (is_ctr mode) Cipher (cipher_usage true) alg found)) _ (given_computed (first_row (encrypt_rows mode (length input) room)) _ refl))
given_own caller a (Destroys id) own = destroyed_or a.store id (first_row (destroy_rows (map.get a.store.keys id) id)) (λ out. OwnId caller (id_given out.reply.output)) (inl refl) (λ s. inl refl)
