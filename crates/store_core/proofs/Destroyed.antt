-- The one-thread store and the devices without a key that is destroyed.
use Rattle.store_core.proofs.Common.{[], and_parts, ap, arith, as_stated, attribute_rows, Attributes, Bool, cases_eq, cases_lt, CellState, checked, cond, count_persistent, counted, Course, creation_of_state, decided, Destroy, destroy_rows, destroyed, Doubt, doubt_after, doubt_by, doubt_undestroyed, Entry, eq-eqb, eqb-true, false, false_from_ne_true, false≢true, FaultMark, filled, first_row, get_or-set_other, get_or-set_same, get_or_past, has_id, has_secure_element, held_key, HeldKey, HeldKeys, HoldsHandle, identified, inl, inr, InvalidHandle, is_destruction, is_lifetime, is_opaque, is_volatile, is_volatile_of, IsSomeKey, IsSoundStore, IsVolatileKey, IsVolatileOf, kept, Key, key_changed, KeyMap, le-ltb, length, List, live_volatile, location, low_id, lt-ltb, map_get, Model, nat_lt, ne_eqb, None, none_holds, not, not-false, of_volatile, Ok, OnStore, Open, Option, option_map_or, or_cases, outcome_of, persistence, Plain, refl, Request, serve, Service, slice_index, slice_set, Some, Status, Storage, Stored, subst, sym, true, true_from_ne_false, unless-ok, Writing, ℕ, ⊎_elim, ⊤, ◌&&◌, ◌+◌, ◌-◌, ◌/◌, ◌<◌, ◌==◌, ◌^◌, ◌||◌, ◌∙◌, ◌≡◌, ◌≢◌, ◌≤◌}
use Rattle.store_core.proofs.Removing.{one_less, nothing_removed, gone}

-- THE MODEL

pub rows_there : (id : ℕ) (o : Option Key) (key : Key) → o ≡ Some key → first_row (destroy_rows o id) ≡ None
rows_there id o key is = ap (λ (x : Option Key). first_row (destroy_rows x id)) is ∙ passes (not (id == 0)) where
  passes : (b : Bool) → cond (b && false) (Some InvalidHandle) None ≡ None
  passes true = refl
  passes false = refl

pub rows_zero : (id : ℕ) (o : Option Key) → id ≡ 0 → first_row (destroy_rows o id) ≡ None
rows_zero id o zero = ap (λ (n : ℕ). first_row (destroy_rows o n)) zero

pub rows_missing : (id : ℕ) (o : Option Key) → id ≢ 0 → o ≡ None → first_row (destroy_rows o id) ≡ Some InvalidHandle
rows_missing id o differ none = ap (λ (x : Option Key). first_row (destroy_rows x id)) none ∙ ap (λ b. cond (not b && true) (Some InvalidHandle) None) (ne_eqb id 0 differ)

after_destruction : (service : Service) (caller : ℕ) (mark : FaultMark) (id : ℕ) (key : Key) → map_get service.store.keys id ≡ Some key →
    (serve service caller (OnStore (Destroy id)) mark).service.store ≡ (destroyed service.store id).store
after_destruction service caller Plain id key is = ap (λ (o : Option Status). (decided service.store o (destroyed service.store id)).store) (rows_there id (map_get service.store.keys id) key is)
after_destruction service caller mark id key is = refl

after_nothing : (service : Service) (caller id : ℕ) → map_get service.store.keys id ≡ None → (serve service caller (OnStore (Destroy id)) Plain).service.store ≡ counted service.store
after_nothing service caller id none = by_rows (first_row (destroy_rows (map_get service.store.keys id) id)) where
  by_rows : (o : Option Status) → (decided service.store o (destroyed service.store id)).store ≡ counted service.store
  by_rows None = ap (λ (keys : KeyMap). record (counted service.store) { keys = keys }) (nothing_removed service.store.keys id none)
  by_rows (Some status) = refl

module _ (e : Entry) (id : ℕ) (call : e.call ≡ OnStore (Destroy id)) where
  abbrev Serves : Service → Request → FaultMark → Model
  Serves service request mark = (serve service e.caller request mark).service.store

  pub entry_removes : (service : Service) (key : Key) → map_get service.store.keys id ≡ Some key → (outcome_of service e).service.store ≡ gone service.store id
  entry_removes service key is = ap (λ (r : Request). Serves service r e.mark) call ∙ after_destruction service e.caller e.mark id key is

  pub entry_stays : (service : Service) → e.mark ≡ Plain → map_get service.store.keys id ≡ None → (outcome_of service e).service.store ≡ counted service.store
  entry_stays service plain none = ap (λ (r : Request). Serves service r e.mark) call ∙ (ap (Serves service (OnStore (Destroy id))) plain ∙ after_nothing service e.caller id none)

  pub changes_it : (service : Service) → key_changed service e.caller e.call ≡ map_get service.store.keys id
  changes_it service = ap (key_changed service e.caller) call

  -- what is in doubt afterwards
  pub doubt_here : (s : Course) (mark : FaultMark) (o : Option Stored) → e.mark ≡ mark → kept (map_get s.service.store.keys id) ≡ o → doubt_after e s ≡ option_map_or (λ (key : Stored). doubt_by mark true key s.doubt) o s.doubt
  doubt_here s mark o marked is =
      ap (λ (r : Request). option_map_or (λ (key : Stored). doubt_by e.mark (is_destruction r) key s.doubt) (kept (key_changed s.service e.caller r)) s.doubt) call
      ∙ (ap (λ (x : FaultMark). option_map_or (λ (key : Stored). doubt_by x true key s.doubt) (kept (map_get s.service.store.keys id)) s.doubt) marked
      ∙ ap (λ (x : Option Stored). option_map_or (λ (key : Stored). doubt_by mark true key s.doubt) x s.doubt) is)

pub undestroyed_doubt : (closed_first : Bool) (key : Stored) (doubt : Doubt) → doubt_undestroyed closed_first key.attributes key.bytes doubt ≡ doubt_by (Storage (Writing closed_first)) true key doubt
undestroyed_doubt true key doubt = refl
undestroyed_doubt false key doubt = refl

pub still_doubted : (closed_first : Bool) (key : Stored) (doubt : Doubt) → doubt_by (Storage (Writing closed_first)) true key doubt ≡ [] → ⊥
still_doubted true key doubt none = cc
still_doubted false key doubt none = cc

-- KEYS BY THEIR IDENTIFIERS

pub opens_with : (slot : CellState) (id : ℕ) → has_id id slot ≡ true → slot ≡ Open id (creation_of_state slot)
opens_with (Open own number) id is = ap (λ (n : ℕ). Open n number) (eqb-true own id is)
opens_with slot id is = absurd (false≢true is)

counted_true : (b : Bool) (n m : ℕ) → n ≡ cond b (m + 1) m → b ≡ true → n ≡ m + 1
counted_true b n m is counts = is ∙ ap (λ x. cond x (m + 1) m) counts

counted_false : (b : Bool) (n m : ℕ) → n ≡ cond b (m + 1) m → b ≡ false → n ≡ m
counted_false b n m is other = is ∙ ap (λ x. cond x (m + 1) m) other

within : (live : List ℕ) (i : ℕ) → 1 ≤ slice_index live i → i < length live
within live i some = elim (cases_lt i (length live)) [
  | inl lt ↦ lt
  | inr past ↦ let none = get_or_past live i 0 past in absurd (omega arith)
]

module _ (m : Model) (id : ℕ) (key : Key) (there : map_get m.keys id ≡ Some key) (sound : IsSoundStore m) where
  abbrev less : Model
  less = gone m id

  abbrev low : ℕ → Bool
  low = λ n. nat_lt n 0x40000000

  module _ (persistent : is_volatile key.attributes ≡ false) where
    pub stated_here : (1 ≤ id) × (id ≤ 0x3fffffff)
    stated_here = let k = sound.keys id key there in subst (λ n. (1 ≤ n) × (n ≤ 0x3fffffff)) k.identifier (low_id key.attributes (length key.bytes) (has_secure_element m) k.attributes persistent)

    pub fewer_kept : count_persistent m.keys ≡ count_persistent less.keys + 1
    fewer_kept = counted_true (low id) _ _ (one_less low m.keys id key there) (lt-ltb id 0x40000000 (let most = stated_here.1 in omega arith))

    pub as_many_live : (c : ℕ) → live_volatile less.keys c ≡ live_volatile m.keys c
    as_many_live c = sym (counted_false (is_volatile_of c id) _ _ (one_less (is_volatile_of c) m.keys id key there) (not_of (is_volatile_of c id) refl)) where
      not_of : (b : Bool) → is_volatile_of c id ≡ b → is_volatile_of c id ≡ false
      not_of true is = absurd (of_volatile id c stated_here.1 is)
      not_of false is = is

  module _ (volatile : is_volatile key.attributes ≡ true) where
    creation : IsVolatileOf m id key.creator
    creation = (sound.keys id key there).volatile volatile

    pub high_here : 0x40000000 ≤ id
    high_here = let is = creation.made.2 in omega arith

    pub of_creator : (caller : ℕ) → 1024 + caller ≡ id / 2 ^ 20 → caller ≤ 16
    of_creator caller named = let is = creation.made.2 in let few = creation.made.1 in let most = sound.made key.creator in let last = creation.to_last in omega arith

    pub as_many_kept : count_persistent less.keys ≡ count_persistent m.keys
    as_many_kept = sym (counted_false (low id) _ _ (one_less low m.keys id key there) (le-ltb id 0x40000000 high_here))

    module _ (caller : ℕ) (named : 1024 + caller ≡ id / 2 ^ 20) where
      pub fewer_live : live_volatile m.keys caller ≡ live_volatile less.keys caller + 1
      fewer_live = counted_true (is_volatile_of caller id) _ _ (one_less (is_volatile_of caller) m.keys id key there) (eq-eqb (id / 2 ^ 20) (1024 + caller) (sym named))

      other_live : (c : ℕ) → c ≢ caller → live_volatile less.keys c ≡ live_volatile m.keys c
      other_live c differ = sym (counted_false (is_volatile_of c id) _ _ (one_less (is_volatile_of c) m.keys id key there) (ne_eqb (id / 2 ^ 20) (1024 + c) (λ same. differ (omega arith))))

      pub live_after : (live : List ℕ) → ((c : ℕ) → c ≤ 16 → live_volatile m.keys c ≡ slice_index live c) → (c : ℕ) → c ≤ 16 → live_volatile less.keys c ≡ slice_index (slice_set live caller (slice_index live caller - 1)) c
      live_after live before c le = elim (cases_eq c caller) [
        | inl same ↦ let now = fewer_live in let was = before caller (of_creator caller named) in let one : live_volatile less.keys caller ≡ slice_index live caller - 1 = omega arith in
            ap (live_volatile less.keys) same ∙ (one ∙ (sym (get_or-set_same live caller (slice_index live caller - 1) 0 (within live caller (omega arith))) ∙ ap (slice_index (slice_set live caller (slice_index live caller - 1))) (sym same)))
        | inr differ ↦ other_live c differ ∙ (before c le ∙ sym (get_or-set_other live caller c (slice_index live caller - 1) 0 differ))
      ]

-- a key of a greater identifier than can be stated is volatile
pub high_is_volatile : (m : Model) (id : ℕ) (key : Key) → IsSoundStore m → 0x3fffffff < id → map_get m.keys id ≡ Some key → is_volatile key.attributes ≡ true
high_is_volatile m id key sound high there = true_from_ne_false (is_volatile key.attributes) (λ persistent. let most = (stated_here m id key there sound persistent).1 in omega arith)

-- and no other key is
pub low_lasts : (m : Model) (id : ℕ) → IsSoundStore m → id ≤ 0x3fffffff → IsVolatileKey (map_get m.keys id) → ⊥
low_lasts m id sound low = go (map_get m.keys id) refl where
  go : (o : Option Key) → map_get m.keys id ≡ o → IsVolatileKey o → ⊥
  go None there is = is
  go (Some key) there is = let high = high_here m id key there sound is in omega arith

-- an identifier that can't be stated is no persistent key's
pub none_unstated : (m : Model) (id : ℕ) → IsSoundStore m → (1 ≤ id → id ≤ 0x3fffffff → ⊥) → (IsVolatileKey (map_get m.keys id) → ⊥) → map_get m.keys id ≡ None
none_unstated m id sound unstated lasts = go (map_get m.keys id) refl lasts where
  go : (o : Option Key) → map_get m.keys id ≡ o → (IsVolatileKey o → ⊥) → o ≡ None
  go None there lasts = refl
  go (Some key) there lasts = let stated = stated_here m id key there sound (false_from_ne_true (is_volatile key.attributes) lasts) in absurd (unstated stated.0 stated.1)

-- no key has the identifier 0
pub none_at_zero : (m : Model) (id : ℕ) → IsSoundStore m → id ≡ 0 → map_get m.keys id ≡ None
none_at_zero m id sound zero = none_unstated m id sound (λ least most. omega arith) (low_lasts m id sound (omega arith))

-- THE DEVICE

lifetime_stated : (a : Attributes) (n : ℕ) (driver : Bool) → checked (as_stated a) n driver ≡ Ok (as_stated a) → is_lifetime a.lifetime.0 driver ≡ true
lifetime_stated a n driver is = not-false (is_lifetime a.lifetime.0 driver)
    (ap (λ (l : ℕ). not (is_lifetime l driver)) (sym (same (is_volatile a))) ∙ none_holds (attribute_rows (as_stated a) n driver) 0 (unless-ok (first_row (attribute_rows (as_stated a) n driver)) (filled (as_stated a) n) (as_stated a) is).0)
  where
    same : (b : Bool) → (cond b (identified a 0) a).lifetime.0 ≡ a.lifetime.0
    same true = refl
    same false = refl

-- only a secure element that is there has a key
pub needs_element : (p l : ℕ) (driver : Bool) → (l == 1) ≡ true → ((p == 0 && (l == 0 || (l == 1 && driver))) || (p == 1 && l == 0)) ≡ true → driver ≡ true
needs_element p l driver at is =
    ⊎_elim
    (λ first. ⊎_elim (λ zero. absurd (clash zero)) (λ both. (and_parts (l == 1) driver both).1) (or_cases (l == 0) (l == 1 && driver) (and_parts (p == 0) (l == 0 || (l == 1 && driver)) first).1))
    (λ second. absurd (clash (and_parts (p == 1) (l == 0) second).1))
    (or_cases (p == 0 && (l == 0 || (l == 1 && driver))) (p == 1 && l == 0) is) where
      clash : (l == 0) ≡ true → ⊥
      clash zero = let one = eqb-true l 1 at in let none = eqb-true l 0 zero in omega arith

pub element_there : (m : Model) (id : ℕ) (key : Key) → map_get m.keys id ≡ Some key → IsSoundStore m → is_opaque key.attributes ≡ true → has_secure_element m ≡ true
element_there m id key there sound opaque =
    needs_element (persistence key.attributes.lifetime.0) (location key.attributes.lifetime.0) (has_secure_element m) opaque
    (lifetime_stated key.attributes (length key.bytes) (has_secure_element m) (sound.keys id key there).attributes)

pub holds_some : (held : Option HeldKeys) (handle : ℕ) (P : HeldKey → Type 0) → HoldsHandle held handle P → HoldsHandle held handle (λ key. ⊤)
holds_some None handle P is = tt
holds_some (Some held) handle P is = some (held_key held handle) is where
  some : (o : Option HeldKey) → IsSomeKey o P → IsSomeKey o (λ key. ⊤)
  some None is = is
  some (Some key) is = tt
