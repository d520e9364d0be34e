-- Each call on the store keeps it sound.
use Rattle.std.proofs.Common.{Bool, List, None, Ok, Option, Some, ap, arith, cond, eqb-true, false, is_some, length, nat_le, nat_lt, not, refl, slice_index_or, slice_set, subst, sym, true, ℕ, ◌&&◌, ◌*◌, ◌+◌, ◌/◌, ◌<◌, ◌==◌, ◌^◌, ◌||◌, ◌∙◌, ◌≡◌, ◌≤◌}
use Rattle.store_model.proofs.Common.{as_stated, Attributes, checked, count_in_range, count_persistent, is_in_range, is_low, is_per_range, persistent_limit, range_limit, counted, created, destroyed, first_row, get_or-set_other, get_or-set_same, has_secure_element, identified, is_volatile, is_volatile_of, IsSoundKey, IsSoundStore, IsVolatileOf, Key, length-set, live_volatile, made_of, nat_cmp, nat_cmp_total, nat_tests, new_id, new_key, next_volatile, room_for_key_rows, Store, unsigned_tied}
use Rattle.std.specs.FinMap as map
use Rattle.store_model.proofs.{Tables.none_holds, Recorded.MayBeKept, Recorded.IsStated, Recorded.stated_id, Live.len_kept-insert, Live.len_kept-remove}
use Rattle.std.proofs.lemmas.Bool.{and_parts}

pub put : (m : map.FinMap nat_cmp Key) (k : ℕ) (v : Key) (q : ℕ) → map.get (map.insert m k v) q ≡ cond (q == k) (Some v) (map.get m q)
put m k v q = map.get-insert nat_cmp_total m k v q ∙ ap (λ b. cond b (Some v) (map.get m q)) (unsigned_tied q k)

pub taken : (m : map.FinMap nat_cmp Key) (k q : ℕ) → map.get (map.remove m k) q ≡ cond (q == k) None (map.get m q)
taken m k q = map.get-remove nat_cmp_total m k q ∙ ap (λ b. cond b None (map.get m q)) (unsigned_tied q k)

-- no number comes twice after a new key whose number none had
pub put_apart : (m : map.FinMap nat_cmp Key) (id : ℕ) (new : Key) → ((q : ℕ) (key : Key) → map.get m q ≡ Some key → key.number ≡ new.number → ⊥) →
    ((q r : ℕ) (key same : Key) → map.get m q ≡ Some key → map.get m r ≡ Some same → key.number ≡ same.number → q ≡ r) →
    (q r : ℕ) (key same : Key) → map.get (map.insert m id new) q ≡ Some key → map.get (map.insert m id new) r ≡ Some same → key.number ≡ same.number → q ≡ r
put_apart m id new fresh apart q r key same e f g = of (q == id) (r == id) refl refl (sym (put m id new q) ∙ e) (sym (put m id new r) ∙ f)
  where
    of : (b c : Bool) → (q == id) ≡ b → (r == id) ≡ c → cond b (Some new) (map.get m q) ≡ Some key → cond c (Some new) (map.get m r) ≡ Some same → q ≡ r
    of true true t u e f = grind (arith, nat_tests)
    of true false t u e f = let is : new ≡ key = cc in absurd (fresh r same f (sym g ∙ ap (λ (k : Key). k.number) (sym is)))
    of false true t u e f = let is : new ≡ same = cc in absurd (fresh q key e (g ∙ ap (λ (k : Key). k.number) (sym is)))
    of false false t u e f = apart q r key same e f g

-- a key stays sound
key_stays : (store after : Store) → store.found + store.calls ≤ after.found + after.calls → has_secure_element store ≡ has_secure_element after → ((c : ℕ) → made_of store c ≤ made_of after c) →
    (id : ℕ) (key : Key) → IsSoundKey store id key → IsSoundKey after id key
key_stays store after later driver more id key k = record {
  identifier = k.identifier;
  given = let g = k.given in omega arith;
  attributes = subst (λ b. checked (as_stated key.attributes) (length key.bytes) b ≡ Ok (as_stated key.attributes)) driver k.attributes;
  volatile = λ e. let v = k.volatile e in record {
    from_first = v.from_first;
    to_last = v.to_last;
    made = (v.made.0, (let l = v.made.1 in let m = more key.creator in omega arith), v.made.2);
  };
}

-- a persistent key's identifier
pub low_id : (a : Attributes) (n : ℕ) (driver : Bool) → checked (as_stated a) n driver ≡ Ok (as_stated a) → is_volatile a ≡ false → (1 ≤ a.id.0) × (a.id.0 ≤ 0x3fffffff)
low_id a n driver h e =
    let same : as_stated a ≡ a = ap (λ b. cond b (identified a 0) a) e in
    subst (λ b. IsStated b a.id.0) e (stated_id a n driver (subst (λ x. checked x n driver ≡ Ok x) same h))

-- one more call

pub counted_sound : (store : Store) → IsSoundStore store → IsSoundStore (counted store)
counted_sound store h = record {
  keys = λ id key e. key_stays store (counted store) (omega arith) refl (λ c. omega arith) id key (h.keys id key e);
  numbers = h.numbers;
  made = h.made;
  live = h.live;
  persistent = h.persistent;
  ranges = h.ranges;
  callers = h.callers;
}

-- A CREATION

-- what the rows of a creation's room say
abbrev pub Room : (volatile by_range : Bool) → (live made count range : ℕ) → Option Key → Type 0
Room true by_range live made count range there = (live < 16) × (made < 2 ^ 20)
Room false by_range live made count range there = (there ≡ None) × (count < persistent_limit) × (by_range ≡ true → range < range_limit)

has_room : (volatile by_range : Bool) (live made count range : ℕ) (there : Option Key) → (volatile && (nat_le 16 live || nat_le (2 ^ 20) made)) ≡ false → (not volatile && is_some there) ≡ false →
    (not volatile && (nat_le persistent_limit count || (by_range && nat_le range_limit range))) ≡ false → Room volatile by_range live made count range there
has_room true by_range live made count range there h i j = (grind (arith, nat_tests), grind (arith, nat_tests))
has_room false true live made count range None h i j = (refl, grind (arith, nat_tests), λ is. grind (arith, nat_tests))
has_room false false live made count range None h i j = (refl, grind (arith, nat_tests), λ is. cc)
has_room false by_range live made count range (Some key) h i j = cc

same_place : (c caller : ℕ) (made : List ℕ) (n : ℕ) → caller < length made → c ≡ caller → slice_index_or (slice_set made caller n) c 0 ≡ n
same_place c caller made n h e = ap (λ k. slice_index_or (slice_set made caller n) k 0) e ∙ get_or-set_same made caller n 0 h

-- how many a caller has made after another one of a caller
one_more : (made : List ℕ) (caller c n : ℕ) → caller < length made → (b : Bool) → (c == caller) ≡ b → slice_index_or (slice_set made caller n) c 0 ≡ cond b n (slice_index_or made c 0)
one_more made caller c n h true t = same_place c caller made n h (grind (arith, nat_tests))
one_more made caller c n h false t = get_or-set_other made caller c n 0 (λ e. grind (arith, nat_tests))

no_fewer : (b : Bool) (m k c caller : ℕ) → (c == caller) ≡ b → (c ≡ caller → m ≡ k) → m ≤ cond b (k + 1) m
no_fewer true m k c caller t same = let e = same (grind (arith, nat_tests)) in omega arith
no_fewer false m k c caller t same = omega arith

at_most : (b : Bool) (m k : ℕ) → k < 2 ^ 20 → m ≤ 2 ^ 20 → cond b (k + 1) m ≤ 2 ^ 20
at_most true m k h g = omega arith
at_most false m k h g = g

one_place : (c caller n m : ℕ) → 0x40000000 + caller * 2 ^ 20 + m ≡ 0x40000000 + c * 2 ^ 20 + n → n < 2 ^ 20 → m < 2 ^ 20 → (c ≡ caller) × (n ≡ m)
one_place c caller n m e h g = (omega arith, omega arith)

-- no key has the next identifier
fresh_at : (store : Store) (caller : ℕ) → IsSoundStore store → made_of store caller < 2 ^ 20 → (o : Option Key) → map.get store.keys (next_volatile store caller) ≡ o → o ≡ None
fresh_at store caller h below None e = refl
fresh_at store caller h below (Some key) e = absurd (no_such (is_volatile key.attributes) refl)
  where
    k : IsSoundKey store (next_volatile store caller) key
    k = h.keys (next_volatile store caller) key e

    no_such : (b : Bool) → is_volatile key.attributes ≡ b → ⊥
    no_such true v =
        let o = k.volatile v in
        let few = h.made key.creator in
        let one = one_place key.creator caller o.made.0 (made_of store caller) o.made.2 (let l = o.made.1 in omega arith) below in
        let same = ap (λ c. made_of store c) one.0 in
        let l = o.made.1 in
        let e = one.1 in
        omega arith
    no_such false v =
        let low = (low_id key.attributes (length key.bytes) (has_secure_element store) k.attributes v).1 in
        let same = k.identifier in
        omega arith

-- there is room for a new key of either kind
abbrev pub RoomFor : Store → ℕ → Attributes → Bool → Type 0
RoomFor store caller kept volatile = Room volatile (is_per_range store.settings.limits) (live_volatile store.keys caller) (made_of store caller) (count_persistent store.keys) (count_in_range store.keys (kept.id.0 / 2 ^ 26)) (map.get store.keys kept.id.0)

room_for : (store : Store) (caller : ℕ) (kept : Attributes) → first_row (room_for_key_rows store caller kept) ≡ None → RoomFor store caller kept (is_volatile kept)
room_for store caller kept h =
    let rows = room_for_key_rows store caller kept in has_room (is_volatile kept) (is_per_range store.settings.limits) _ _ _ _ _ (none_holds rows 0 h) (none_holds rows 1 h) (none_holds rows 2 h)

pub room_of : (store : Store) (caller : ℕ) (kept : Attributes) (volatile : Bool) → is_volatile kept ≡ volatile → first_row (room_for_key_rows store caller kept) ≡ None → RoomFor store caller kept volatile
room_of store caller kept volatile is h = subst (RoomFor store caller kept) is (room_for store caller kept h)

-- and no key has its identifier
no_key : (store : Store) (caller : ℕ) (kept : Attributes) → IsSoundStore store → (volatile : Bool) → RoomFor store caller kept volatile →
    map.get store.keys (cond volatile (next_volatile store caller) kept.id.0) ≡ None
no_key store caller kept h true r = fresh_at store caller h r.1 _ refl
no_key store caller kept h false r = r.0

pub new_is_free : (store : Store) (caller : ℕ) (kept : Attributes) → IsSoundStore store → first_row (room_for_key_rows store caller kept) ≡ None → map.get store.keys (new_id store caller kept) ≡ None
new_is_free store caller kept h e = no_key store caller kept h (is_volatile kept) (room_for store caller kept e)

-- a count after one more where it counts
few_step : (limit : ℕ) (b : Bool) (m n : ℕ) → m ≡ cond b (n + 1) n → n ≤ limit → (b ≡ true → n < limit) → m ≤ limit
few_step limit true m n e h k = let below = k refl in omega arith
few_step limit false m n e h k = omega arith

same_caller : (q other caller m n : ℕ) → (q == 1024 + other) ≡ true → q ≡ 1024 + caller → (other ≡ caller → m ≡ n) → n < 16 → m < 16
same_caller q other caller m n t e same h =
    let one : other ≡ caller = grind (arith, nat_tests) in
    let equal = same one in
    omega arith

pub of_volatile : (id other : ℕ) → id ≤ 0x3fffffff → (id / 2 ^ 20 == 1024 + other) ≡ true → ⊥
of_volatile id other h t = let low : id / 2 ^ 20 ≤ 1023 = omega arith in grind (arith, nat_tests)

of_persistent : (caller made : ℕ) → nat_lt (0x40000000 + caller * 2 ^ 20 + made) 0x40000000 ≡ true → ⊥
of_persistent caller made t = let low : 0x40000000 + caller * 2 ^ 20 + made < 0x40000000 = grind (arith, nat_tests) in omega arith

-- what is kept is as it could be stated
kept_as_stated : (kept : Attributes) (volatile : Bool) (next : ℕ) → IsStated volatile kept.id.0 →
    let id : ℕ = cond volatile next kept.id.0 in
    cond volatile (identified (identified kept id) 0) (identified kept id) ≡ kept
kept_as_stated kept true next none = ap (identified kept) (sym none)
kept_as_stated kept false next some = refl

module _ (store : Store) (caller : ℕ) (kept : Attributes) (bytes : List ℕ) (first : 1 ≤ caller) (last : caller ≤ 16) (h : IsSoundStore store) (may : MayBeKept store caller kept (length bytes)) where
  abbrev id : ℕ
  id = new_id store caller kept

  abbrev new : Key
  new = new_key store caller id kept bytes

  abbrev after : Store
  after = (created store caller kept bytes).store

  inside : caller < length store.made
  inside = let l = h.callers in omega arith

  room : RoomFor store caller kept (is_volatile kept)
  room = room_for store caller kept may.room

  stated : IsStated (is_volatile kept) kept.id.0
  stated = stated_id kept (length bytes) (has_secure_element store) may.checks

  -- the new identifier, for either kind of key
  abbrev id_of : Bool → ℕ
  id_of volatile = cond volatile (next_volatile store caller) kept.id.0

  abbrev made_then : Bool → ℕ → ℕ
  made_then volatile c = slice_index_or (cond volatile (slice_set store.made caller (made_of store caller + 1)) store.made) c 0

  more_made : (volatile : Bool) (c : ℕ) → made_of store c ≤ made_then volatile c
  more_made true c =
      let e = one_more store.made caller c (made_of store caller + 1) inside (c == caller) refl in
      let more = no_fewer (c == caller) (made_of store c) (made_of store caller) c caller refl (λ same. ap (λ k. made_of store k) same) in
      omega arith
  more_made false c = omega arith

  few_made : (volatile : Bool) → RoomFor store caller kept volatile → (c : ℕ) → made_then volatile c ≤ 2 ^ 20
  few_made true r c =
      let e = one_more store.made caller c (made_of store caller + 1) inside (c == caller) refl in
      let b = at_most (c == caller) (made_of store c) (made_of store caller) r.1 (h.made c) in
      omega arith
  few_made false r c = h.made c

  same_length : (volatile : Bool) → length (cond volatile (slice_set store.made caller (made_of store caller + 1)) store.made) ≡ length store.made
  same_length true = length-set store.made caller (made_of store caller + 1)
  same_length false = refl

  live_before : (volatile : Bool) → RoomFor store caller kept volatile → IsStated volatile kept.id.0 → (c : ℕ) → is_volatile_of c (id_of volatile) ≡ true → live_volatile store.keys c < 16
  live_before true r s c t =
      same_caller (id_of true / 2 ^ 20) c caller (live_volatile store.keys c) (live_volatile store.keys caller) t (let l = r.1 in omega arith) (λ same. ap (live_volatile store.keys) same) r.0
  live_before false r s c t = absurd (of_volatile kept.id.0 c s.1 t)

  persistent_before : (volatile : Bool) → RoomFor store caller kept volatile → nat_lt (id_of volatile) 0x40000000 ≡ true → count_persistent store.keys < persistent_limit
  persistent_before true r t = absurd (of_persistent caller (made_of store caller) t)
  persistent_before false r t = r.1

  range_before : (volatile : Bool) → RoomFor store caller kept volatile → is_per_range store.settings.limits ≡ true → (range : ℕ) → is_in_range range (id_of volatile) ≡ true → count_in_range store.keys range < range_limit
  range_before true r per range t = absurd (of_persistent caller (made_of store caller) (and_parts (is_low (id_of true)) (id_of true / 2 ^ 26 == range) t).0)
  range_before false r per range t =
      let same : kept.id.0 / 2 ^ 26 ≡ range = eqb-true (kept.id.0 / 2 ^ 26) range (and_parts (is_low kept.id.0) (kept.id.0 / 2 ^ 26 == range) t).1 in
      subst (λ (n : ℕ). count_in_range store.keys n < range_limit) same (r.2 per)

  new_volatile : is_volatile kept ≡ true → IsVolatileOf after id caller
  new_volatile v = record {
    from_first = first;
    to_last = last;
    made = (
      made_of store caller,
      subst (λ b. made_of store caller < made_then b caller) (sym v) (let e = same_place caller caller store.made (made_of store caller + 1) inside refl in omega arith),
      ap id_of v,
    );
  }

  new_sound : IsSoundKey after id new
  new_sound = record {
    identifier = refl;
    given = omega arith;
    attributes = subst (λ x. checked x (length bytes) (has_secure_element store) ≡ Ok x) (sym (kept_as_stated kept (is_volatile kept) (next_volatile store caller) stated)) may.checks;
    volatile = new_volatile;
  }

  new_or_old : (q : ℕ) (key : Key) (b : Bool) → (q == id) ≡ b → cond b (Some new) (map.get store.keys q) ≡ Some key → IsSoundKey after q key
  new_or_old q key true t e =
      let is : new ≡ key = cc in
      let same : id ≡ q = grind (arith, nat_tests) in
      subst (IsSoundKey after q) is (subst (λ k. IsSoundKey after k new) same new_sound)
  new_or_old q key false t e = key_stays store after (omega arith) refl (more_made (is_volatile kept)) q key (h.keys q key e)

  pub created_sound : IsSoundStore (created store caller kept bytes).store
  created_sound =
      let none = new_is_free store caller kept h may.room in
      record {
        keys = λ q key e. new_or_old q key (q == id) refl (sym (put store.keys id new q) ∙ e);
        numbers = put_apart store.keys id new (λ q key e same. let k = (h.keys q key e).given in let number : key.number ≡ store.found + store.calls = same in omega arith) h.numbers;
        made = few_made (is_volatile kept) room;
        live = λ c. few_step 16 (is_volatile_of c id) (live_volatile after.keys c) (live_volatile store.keys c) (len_kept-insert (is_volatile_of c) store.keys id new none) (h.live c)
            (live_before (is_volatile kept) room stated c);
        persistent = few_step persistent_limit (is_low id) (count_persistent after.keys) (count_persistent store.keys) (len_kept-insert is_low store.keys id new none) h.persistent
            (persistent_before (is_volatile kept) room);
        ranges = λ per range. few_step range_limit (is_in_range range id) (count_in_range after.keys range) (count_in_range store.keys range) (len_kept-insert (is_in_range range) store.keys id new none) (h.ranges per range)
            (range_before (is_volatile kept) room per range);
        callers = same_length (is_volatile kept) ∙ h.callers;
      }

-- A DESTRUCTION

pub left : (b : Bool) (o : Option Key) (key : Key) → cond b None o ≡ Some key → o ≡ Some key
left true o key h = cc
left false o key h = h

pub destroyed_sound : (store : Store) (id : ℕ) → IsSoundStore store → IsSoundStore (destroyed store id).store
destroyed_sound store id h = record {
  keys = λ q key e. key_stays store (destroyed store id).store (omega arith) refl (λ c. omega arith) q key (h.keys q key (left (q == id) _ key (sym (taken store.keys id q) ∙ e)));
  numbers = λ q r key same e f g. h.numbers q r key same (left (q == id) _ key (sym (taken store.keys id q) ∙ e)) (left (r == id) _ same (sym (taken store.keys id r) ∙ f)) g;
  made = h.made;
  live = λ c. let few = h.live c in let fewer = len_kept-remove (is_volatile_of c) store.keys id in omega arith;
  persistent = let few = h.persistent in let fewer = len_kept-remove is_low store.keys id in omega arith;
  ranges = λ per range. let few = h.ranges per range in let fewer = len_kept-remove (is_in_range range) store.keys id in omega arith;
  callers = h.callers;
}
