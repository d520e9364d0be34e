-- The keys that are there before a history count as made before it.
use Rattle.std.proofs.Common.{Bool, List, None, Some, T, [], ap, arith, cond, false, length, refl, subst, sym, true, ℕ, ◌&&◌, ◌+◌, ◌<◌, ◌==◌, ◌∙◌, ◌∷◌, ◌≡◌}
use Rattle.store_model.proofs.{Common.creation_at, Common.creation_from, Common.Equal, Common.found_made, Common.Greater, Common.is_eq, Common.is_lt, Common.IsSoundStore, Common.IsWithin-refl, Common.Key, Common.Less, Common.Made, Common.nat_cmp, Common.nat_tests, Common.NoneFoundAtStart, Common.origin_from, Common.origin_of, Common.start_of, Common.Store, Common.unsigned_tied, Origin.Tracks}
use Rattle.std.specs.Prelude.{map as each}
use Rattle.std.specs.{declared.cmp.Ordering.Ordering, FinMap.Entries.below_all}
use Rattle.std.specs.FinMap as map

abbrev KeyEntry : Type 0
KeyEntry = ℕ × Key

abbrev found_key : Key → Made
found_key key = creation_from None key

abbrev as_made : List KeyEntry → List Made
as_made es = each found_key (each (λ e. e.1) es)

both : (a b : Bool) → T (a && b) → T a × T b
both true b h = (tt, h)
both false b h = absurd h

less : (o : Ordering) → T (is_lt o) → o ≡ Less
less Less h = refl
less Equal h = absurd h
less Greater h = absurd h

-- a list of entries has at a key below all of its own nothing
below_none : (x : ℕ) (es : List KeyEntry) → T (below_all nat_cmp x es) → map.find nat_cmp x es ≡ None
below_none x [] h = refl
below_none x (e ∷ es) h =
    let parts = both (is_lt (nat_cmp x e.0)) (below_all nat_cmp x es) h in
    ap (λ (o : Ordering). cond (is_eq o) (Some e.1) (map.find nat_cmp x es)) (less (nat_cmp x e.0) parts.0) ∙ below_none x es parts.1

-- what a list has at a key, by whether this is the first entry's
found_by : (e : KeyEntry) (es : List KeyEntry) (q : ℕ) (b : Bool) → (q == e.0) ≡ b → map.find nat_cmp q (e ∷ es) ≡ cond b (Some e.1) (map.find nat_cmp q es)
found_by e es q b same = ap (λ (c : Bool). cond c (Some e.1) (map.find nat_cmp q es)) (unsigned_tied q e.0 ∙ same)

-- a creation of a list is that of one of its keys
record IsFound (es : List KeyEntry) (n : ℕ) (m : Made) : Type 0 where
  id : ℕ
  key : Key
  there : map.find nat_cmp id es ≡ Some key
  number : key.number ≡ n
  is : found_key key ≡ m

no_clash : (e : KeyEntry) (es : List KeyEntry) (q : ℕ) (key : Key) → T (below_all nat_cmp e.0 es) → map.find nat_cmp q es ≡ Some key → (b : Bool) → (q == e.0) ≡ b → map.find nat_cmp q (e ∷ es) ≡ Some key
no_clash e es q key below there true same =
    let at : q ≡ e.0 = grind (arith, nat_tests) in
    let none : map.find nat_cmp q es ≡ None = ap (λ (x : ℕ). map.find nat_cmp x es) at ∙ below_none e.0 es below in
    let clash = sym there ∙ none in cc
no_clash e es q key below there false same = found_by e es q false same ∙ there

is_found : (es : List KeyEntry) → T (map.is_sorted nat_cmp es) → (n : ℕ) (m : Made) → creation_at (as_made es) n ≡ Some m → IsFound es n m
is_found [] sorted n m c = cc
is_found (e ∷ es) sorted n m c =
    let parts = both (below_all nat_cmp e.0 es) (map.is_sorted nat_cmp es) sorted in
    of parts.0 (is_found es parts.1 n m) (e.1.number == n) refl c
  where
    of : T (below_all nat_cmp e.0 es) → (creation_at (as_made es) n ≡ Some m → IsFound es n m) →
        (b : Bool) → (e.1.number == n) ≡ b → cond b (Some (found_key e.1)) (creation_at (as_made es) n) ≡ Some m → IsFound (e ∷ es) n m
    of below rest true same is = record {
      id = e.0;
      key = e.1;
      there = found_by e es e.0 true (grind (arith, nat_tests));
      number = grind (arith, nat_tests);
      is = cc;
    }
    of below rest false same is =
        let f = rest is in
        record { id = f.id; key = f.key; there = no_clash e es f.id f.key below f.there (f.id == e.0) refl; number = f.number; is = f.is }

-- each key's creation is there
abbrev HasMade : List KeyEntry → ℕ → Type 0
HasMade es n = (m : Made) × (creation_at (as_made es) n ≡ Some m)

some_same : {a b : Key} → Some a ≡ Some b → a ≡ b
some_same e = cc

listed : (es : List KeyEntry) (q : ℕ) (key : Key) → map.find nat_cmp q es ≡ Some key → HasMade es key.number
listed [] q key there = cc
listed (e ∷ es) q key there = of (listed es q key) (e.1.number == key.number) refl
  where
    later : (map.find nat_cmp q es ≡ Some key → HasMade es key.number) → (e.1.number == key.number) ≡ false → (b : Bool) → (q == e.0) ≡ b → HasMade es key.number
    later rest other true same =
        let is : Some e.1 ≡ Some key = sym (found_by e es q true same) ∙ there in
        absurd (let alike : e.1.number ≡ key.number = ap (λ (k : Key). k.number) (some_same is) in grind (arith, nat_tests))
    later rest other false same = rest (sym (found_by e es q false same) ∙ there)

    of : (map.find nat_cmp q es ≡ Some key → HasMade es key.number) → (b : Bool) → (e.1.number == key.number) ≡ b → HasMade (e ∷ es) key.number
    of rest true same = (found_key e.1, ap (λ (b : Bool). cond b (Some (found_key e.1)) (creation_at (as_made es) key.number)) same)
    of rest false same =
        let made = later rest same (q == e.0) refl in
        (made.0, ap (λ (b : Bool). cond b (Some (found_key e.1)) (creation_at (as_made es) key.number)) same ∙ made.1)

-- each of them is its own origin
own_origin : (es : List KeyEntry) (n : ℕ) → origin_of (as_made es) n ≡ n
own_origin [] n = refl
own_origin (e ∷ es) n = of (own_origin es n) (e.1.number == n)
  where
    of : origin_of (as_made es) n ≡ n → (b : Bool) → cond b (origin_from n None (origin_of (as_made es))) (origin_of (as_made es) n) ≡ n
    of rest true = refl
    of rest false = rest

pub found_tracks : (store : Store) → IsSoundStore store → Tracks store (found_made store)
found_tracks store sound = record {
  alive = λ id key e.
      let made = listed es id key (sym (map.get-entries store.keys id) ∙ e) in
      let f = found key.number made.0 made.1 in
      let same : id ≡ f.id = sound.numbers id f.id key f.key e (map.get-entries store.keys f.id ∙ f.there) (sym f.number) in
      let alike : key ≡ f.key = some_same (sym e ∙ ap (map.get store.keys) same ∙ map.get-entries store.keys f.id ∙ f.there) in
      (made.0, (made.1, ap (λ (m : Made). m.policy) (sym f.is) ∙ ap (λ (k : Key). k.attributes.policy) (sym alike)));
  below = λ n m c.
      let f = found n m c in
      subst (λ (k : ℕ). k < store.found + store.calls) f.number (sound.keys f.id f.key (map.get-entries store.keys f.id ∙ f.there)).given;
  origin = λ n m c.
      let f = found n m c in
      let number : m.number ≡ n = ap (λ (x : Made). x.number) (sym f.is) ∙ f.number in
      record {
        origin = m;
        found = ap (creation_at (as_made es)) (own_origin es m.number ∙ number) ∙ c;
        first = ap (λ (x : Made). x.source) (sym f.is);
        within = IsWithin-refl m.policy;
      };
}
  where
    es : List KeyEntry
    es = map.entries store.keys

    found : (n : ℕ) (m : Made) → creation_at (as_made es) n ≡ Some m → IsFound es n m
    found n m c = is_found es (map.entries_sorted store.keys) n m c

none_made : (es : List KeyEntry) → length es ≡ 0 → as_made es ≡ []
none_made [] none = refl
none_made (e ∷ es) none = absurd (omega arith)

pub none_found : NoneFoundAtStart
none_found settings = none_made (map.entries (start_of settings []).keys) (sym (map.len-entries (start_of settings []).keys) ∙ map.len-empty nat_cmp Key)
