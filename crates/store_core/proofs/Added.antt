-- A store with one key more.
use Rattle.store_core.proofs.Common.{[], ap, arith, Attributes, Bool, bytes-buffer_of, cases_eq, cell_state, CellState, cond, count_persistent, counted, created, durable_keys, eq-eqb, eqb-true, false, false≢true, first_volatile, Free, full_slot, get_or-set_other, get_or-set_same, has_secure_element, held_key, HeldKey, HeldKeys, HoldsHandle, HoldsKeys, identified, inl, inr, is_opaque, is_open, is_volatile, is_volatile_of, IsDirectory, IsFirstWithoutKey, IsPut, IsSomeKey, IsSoundStore, IsStated, IsThereOrNew, kept, Key, Lacks, le-ltb, len_kept-insert, length, length-map, List, live_volatile, lt-ltb, made_of, made_with, map_get, map_get-insert, map_len, MayBeKept, Model, nat_cmp_total, nat_lt, ne_eqb, new_id, new_is_free, new_key, next_volatile, None, none-some, of_volatile, Open, Option, option_map, put, Puts, refl, retain_keys, room_of, same_Some, set, settled_state, settled_states, slice_index, slice_set, SlotHasKey, Some, stated_id, stored, subst, sym, true, unsigned_tied, with_held_key, ℕ, ◌+◌, ◌/◌, ◌<◌, ◌==◌, ◌^◌, ◌∙◌, ◌≡◌, ◌≢◌, ◌≤◌, ◌⊎◌, cell_count}
use Rattle.store_core.proofs.{Kept.HasCellKey, Removing.settled_at, Removing.settled_opens}

module _ (m : Model) (caller : ℕ) (recorded : Attributes) (bytes : List ℕ) (first : 1 ≤ caller) (last : caller ≤ 16) (sound : IsSoundStore m) (may : MayBeKept m caller recorded (length bytes)) where
  abbrev pub id : ℕ
  id = new_id m caller recorded

  abbrev pub new : Key
  new = new_key m caller id recorded bytes

  abbrev pub after : Model
  after = (created m caller recorded bytes).store

  pub none_here : map_get m.keys id ≡ None
  none_here = new_is_free m caller recorded sound may.room

  pub put_here : map_get after.keys id ≡ Some new
  put_here = put m.keys id new id ∙ ap (λ b. cond b (Some new) (map_get m.keys id)) (eq-eqb id id refl)

  pub put_other : (q : ℕ) → q ≢ id → map_get after.keys q ≡ map_get m.keys q
  put_other q other = put m.keys id new q ∙ ap (λ b. cond b (Some new) (map_get m.keys q)) (ne_eqb q id other)

  -- what is found afterwards was there, or is the new key
  abbrev pub IsOldOrNew : ℕ → Key → Type 0
  IsOldOrNew q k = ((q ≡ id) × (new ≡ k)) ⊎ ((q ≢ id) × (map_get m.keys q ≡ Some k))

  pub old_or_new : (q : ℕ) (k : Key) → map_get after.keys q ≡ Some k → IsOldOrNew q k
  old_or_new q k is = elim (cases_eq q id) [
    | inl same ↦ inl (same, same_Some new k (sym put_here ∙ (ap (map_get after.keys) (sym same) ∙ is)))
    | inr other ↦ inr (other, sym (put_other q other) ∙ is)
  ]

  pub puts : Puts m after id (Some new)
  puts = record { here = put_here; others = put_other; given = omega arith }

  pub is_new : IsThereOrNew m id new
  is_new = inr (omega arith)

  -- IN THE FILE

  pub put_kept : IsPut (durable_keys m) (durable_keys after) id (kept (Some new))
  put_kept q = ap kept (put m.keys id new q) ∙ both (q == id) where
    both : (b : Bool) → kept (cond b (Some new) (map_get m.keys q)) ≡ cond b (kept (Some new)) (durable_keys m q)
    both true = refl
    both false = refl

  pub volatile_kept : is_volatile recorded ≡ true → (q : ℕ) → durable_keys after q ≡ durable_keys m q
  volatile_kept is q = put_kept q ∙ same (q == id) refl where
    own : kept (Some new) ≡ None
    own = ap (λ b. cond b None (Some (stored new.number new.attributes new.bytes))) is

    same : (b : Bool) → (q == id) ≡ b → cond b (kept (Some new)) (durable_keys m q) ≡ durable_keys m q
    same true at = own ∙ sym (ap kept (ap (map_get m.keys) (eqb-true q id at) ∙ none_here))
    same false at = refl

  pub persistent_kept : is_volatile recorded ≡ false → kept (Some new) ≡ Some (stored new.number new.attributes bytes)
  persistent_kept is = ap (λ b. cond b None (Some (stored new.number new.attributes new.bytes))) is

  -- a persistent key has the identifier that was stated
  pub stated_here : is_volatile recorded ≡ false → id ≡ recorded.id.0
  stated_here is = ap (λ b. cond b (next_volatile m caller) recorded.id.0) is

  pub named_as_stated : is_volatile recorded ≡ false → identified recorded id ≡ recorded
  named_as_stated is = ap (identified recorded) (stated_here is)

  low_here : is_volatile recorded ≡ false → (1 ≤ recorded.id.0) × (recorded.id.0 ≤ 0x3fffffff)
  low_here is = subst (λ b. IsStated b recorded.id.0) is (stated_id recorded (length bytes) (has_secure_element m) may.checks)

  -- THE COUNTS

  counts : (p : ℕ → Bool) → map_len (retain_keys after.keys p) ≡ cond (p id) (map_len (retain_keys m.keys p) + 1) (map_len (retain_keys m.keys p))
  counts p = len_kept-insert p m.keys id new none_here

  module _ (is : is_volatile recorded ≡ true) where
    pub volatile_id : id ≡ first_volatile caller + made_of m caller
    volatile_id = ap (λ b. cond b (next_volatile m caller) recorded.id.0) is

    pub few_live : live_volatile m.keys caller < 16
    few_live = (room_of m caller recorded true is may.room).0

    pub few_made : made_of m caller < 2 ^ 20
    few_made = (room_of m caller recorded true is may.room).1

    made_after : made_with m caller recorded ≡ slice_set m.made caller (made_of m caller + 1)
    made_after = ap (λ b. cond b (slice_set m.made caller (made_of m caller + 1)) m.made) is

    pub made_here : (made : List ℕ) → m.made ≡ made → after.made ≡ slice_set made caller (slice_index made caller + 1)
    made_here made same = made_after ∙ ap (λ (l : List ℕ). slice_set l caller (slice_index l caller + 1)) same

    is_high : nat_lt id 0x40000000 ≡ false
    is_high = le-ltb id 0x40000000 (let at = volatile_id in omega arith)

    pub as_many_kept : count_persistent after.keys ≡ count_persistent m.keys
    as_many_kept = counts (λ n. nat_lt n 0x40000000) ∙ ap (λ b. cond b (count_persistent m.keys + 1) (count_persistent m.keys)) is_high

    of_caller : (c : ℕ) → id / 2 ^ 20 ≡ 1024 + caller
    of_caller c = let at = volatile_id in let few = few_made in omega arith

    live_other : (c : ℕ) → c ≢ caller → live_volatile after.keys c ≡ live_volatile m.keys c
    live_other c differ = counts (is_volatile_of c) ∙ ap (λ b. cond b (live_volatile m.keys c + 1) (live_volatile m.keys c)) (ne_eqb (id / 2 ^ 20) (1024 + c) (λ same. let own = of_caller c in differ (omega arith)))

    live_own : live_volatile after.keys caller ≡ live_volatile m.keys caller + 1
    live_own = counts (is_volatile_of caller) ∙ ap (λ b. cond b (live_volatile m.keys caller + 1) (live_volatile m.keys caller)) (eq-eqb (id / 2 ^ 20) (1024 + caller) (of_caller caller))

    pub live_here : (live : List ℕ) → length live ≡ 17 → ((c : ℕ) → c ≤ 16 → live_volatile m.keys c ≡ slice_index live c) → (c : ℕ) → c ≤ 16 → live_volatile after.keys c ≡ slice_index (slice_set live caller (slice_index live caller + 1)) c
    live_here live sized before c le = elim (cases_eq c caller) [
      | inl same ↦ ap (live_volatile after.keys) same ∙ (live_own ∙ (ap (λ n. n + 1) (before caller last)
          ∙ (sym (get_or-set_same live caller (slice_index live caller + 1) 0 (omega (arith, sized, last))) ∙ ap (slice_index (slice_set live caller (slice_index live caller + 1))) (sym same))))
      | inr differ ↦ live_other c differ ∙ (before c le ∙ sym (get_or-set_other live caller c (slice_index live caller + 1) 0 differ))
    ]

  module _ (is : is_volatile recorded ≡ false) where
    pub none_stated : map_get m.keys recorded.id.0 ≡ None
    none_stated = ap (map_get m.keys) (sym (stated_here is)) ∙ none_here

    pub few_kept : count_persistent m.keys < cell_count
    few_kept = (room_of m caller recorded false is may.room).1

    is_low : nat_lt id 0x40000000 ≡ true
    is_low = lt-ltb id 0x40000000 (let at = stated_here is in let most = (low_here is).1 in omega arith)

    pub one_more_kept : count_persistent after.keys ≡ count_persistent m.keys + 1
    one_more_kept = counts (λ n. nat_lt n 0x40000000) ∙ ap (λ b. cond b (count_persistent m.keys + 1) (count_persistent m.keys)) is_low

    pub as_many_live : (c : ℕ) → live_volatile after.keys c ≡ live_volatile m.keys c
    as_many_live c = counts (is_volatile_of c) ∙ not_of (is_volatile_of c id) refl where
      not_of : (b : Bool) → is_volatile_of c id ≡ b → cond b (live_volatile m.keys c + 1) (live_volatile m.keys c) ≡ live_volatile m.keys c
      not_of true own = absurd (of_volatile id c (let at = stated_here is in let most = (low_here is).1 in omega arith) own)
      not_of false own = refl

    pub made_same : after.made ≡ m.made
    made_same = ap (λ b. cond b (slice_set m.made caller (made_of m caller + 1)) m.made) is

  -- THE DIRECTORY

  -- no cell has a volatile key
  pub directory_same : (slots : List CellState) → is_volatile recorded ≡ true → IsDirectory slots m → IsDirectory slots after
  directory_same slots is d = record {
    sized = d.sized;
    there = λ q k e lasts. in_cell q k (old_or_new q k e) lasts;
    only = λ c q number lt at. let k = d.only c q number lt at in (k.0, put_other q (λ same. not_new q k.0 k.1 same) ∙ k.1, k.2, k.3);
    one = d.one;
  } where
    not_new : (q : ℕ) (k : Key) → map_get m.keys q ≡ Some k → q ≡ id → ⊥
    not_new q k e same = none-some k (sym none_here ∙ (ap (map_get m.keys) (sym same) ∙ e))

    in_cell : (q : ℕ) (k : Key) → IsOldOrNew q k → is_volatile k.attributes ≡ false → (c : ℕ) × (c < cell_count) × (cell_state slots c ≡ Open q k.number)
    in_cell q k (inl here) lasts = absurd (false≢true (sym lasts ∙ (ap (λ (x : Key). is_volatile x.attributes) (sym here.1) ∙ is)))
    in_cell q k (inr old) lasts = d.there q k old.1 lasts

  -- a persistent one has the first cell that had none
  module _ (slots slots' : List CellState) (c : ℕ) (is : is_volatile recorded ≡ false) (d : IsDirectory slots m) (without : IsFirstWithoutKey slots c) (sized : length slots' ≡ cell_count)
      (placed : slots' ≡ set (settled_states slots) c (Open recorded.id.0 (m.found + m.calls))) where
    inside : c < length (settled_states slots)
    inside = let lt = without.within in omega (arith, lt, length-map slots settled_state)

    at_c : cell_state slots' c ≡ Open recorded.id.0 (m.found + m.calls)
    at_c = ap (λ (l : List CellState). cell_state l c) placed ∙ get_or-set_same (settled_states slots) c (Open recorded.id.0 (m.found + m.calls)) Free inside

    elsewhere : (other : ℕ) → other ≢ c → cell_state slots' other ≡ settled_state (cell_state slots other)
    elsewhere other differ = ap (λ (l : List CellState). cell_state l other) placed ∙ (get_or-set_other (settled_states slots) c other (Open recorded.id.0 (m.found + m.calls)) Free differ ∙ settled_at slots other)

    opens_twice : (q n r k : ℕ) → Open q n ≡ Open r k → (q ≡ r) × (n ≡ k)
    opens_twice q n r k e = (cc, cc)

    -- an open cell is the new key's, or was there
    abbrev IsOpenCell : (x q n : ℕ) → Type 0
    IsOpenCell x q n = ((x ≡ c) × (q ≡ recorded.id.0) × (n ≡ m.found + m.calls)) ⊎ ((x ≢ c) × (cell_state slots x ≡ Open q n))

    open_cell : (x q n : ℕ) → cell_state slots' x ≡ Open q n → IsOpenCell x q n
    open_cell x q n at = elim (cases_eq x c) [
      | inl same ↦ let two = opens_twice q n recorded.id.0 (m.found + m.calls) (sym at ∙ (ap (cell_state slots') same ∙ at_c)) in inl (same, two.0, two.1)
      | inr other ↦ inr (other, settled_opens (cell_state slots x) q n (sym (elsewhere x other) ∙ at))
    ]

    -- a cell that had a key isn't the new key's
    not_first : (x q n : ℕ) → cell_state slots x ≡ Open q n → x ≢ c
    not_first x q n at same = false≢true (sym without.here ∙ (ap (λ k. is_open (cell_state slots k)) (sym same) ∙ ap is_open at))

    not_new : (q : ℕ) (k : Key) → map_get m.keys q ≡ Some k → q ≢ recorded.id.0
    not_new q k e same = none-some k (sym (none_stated is) ∙ (ap (map_get m.keys) (sym same) ∙ e))

    pub directory_placed : IsDirectory slots' after
    directory_placed = record {
      sized = sized;
      there = λ q k e lasts. in_cell q k (old_or_new q k e) lasts;
      only = λ x q n lt at. of_cell x q n lt (open_cell x q n at);
      one = λ x other q n another lt less at also. same_cell x other q n another lt less (open_cell x q n at) (open_cell other q another also);
    } where
      in_cell : (q : ℕ) (k : Key) → IsOldOrNew q k → is_volatile k.attributes ≡ false → (x : ℕ) × (x < cell_count) × (cell_state slots' x ≡ Open q k.number)
      in_cell q k (inl here) lasts = let lt = without.within in let n = d.sized in
          (c, omega arith, at_c ∙ (ap (λ i. Open i (m.found + m.calls)) (sym (stated_here is) ∙ sym here.0) ∙ ap (λ (x : Key). Open q x.number) here.1))
      in_cell q k (inr old) lasts = let x = d.there q k old.1 lasts in (x.0, x.1, elsewhere x.0 (not_first x.0 q k.number x.2) ∙ ap settled_state x.2)

      of_cell : (x q n : ℕ) → x < cell_count → IsOpenCell x q n → HasCellKey after q n
      of_cell x q n lt (inl here) = (new, ap (map_get after.keys) (here.1 ∙ sym (stated_here is)) ∙ put_here, is, sym here.2)
      of_cell x q n lt (inr old) = let k = d.only x q n lt old.1 in (k.0, put_other q (λ same. not_new q k.0 k.1 (same ∙ stated_here is)) ∙ k.1, k.2, k.3)

      same_cell : (x other q n another : ℕ) → x < cell_count → other < cell_count → IsOpenCell x q n → IsOpenCell other q another → x ≡ other
      same_cell x other q n another lt less (inl one) (inl two) = one.0 ∙ sym two.0
      same_cell x other q n another lt less (inl one) (inr two) = let k = d.only other q another less two.1 in absurd (not_new q k.0 k.1 one.1)
      same_cell x other q n another lt less (inr one) (inl two) = let k = d.only x q n lt one.1 in absurd (not_new q k.0 k.1 two.1)
      same_cell x other q n another lt less (inr one) (inr two) = d.one x other q n another lt less one.1 two.1

  -- THE DEVICE

  -- a local key is none of the device's
  pub device_same : (held : Option HeldKeys) → is_opaque recorded ≡ false → HoldsKeys held m → HoldsKeys held after
  device_same held local d = record {
    there = λ q k e opaque. in_device q k (old_or_new q k e) opaque;
    new = λ handle le. d.new handle (omega (arith, le));
  } where
    in_device : (q : ℕ) (k : Key) → IsOldOrNew q k → is_opaque k.attributes ≡ true → HoldsHandle held k.number (λ h. h ≡ record { key_type = k.attributes.key_type.0; bytes = k.bytes })
    in_device q k (inl here) opaque = absurd (false≢true (sym local ∙ (ap (λ (x : Key). is_opaque x.attributes) here.1 ∙ opaque)))
    in_device q k (inr old) opaque = d.there q k old.1 opaque

  abbrev own_key : HeldKey
  own_key = record { key_type = recorded.key_type.0; bytes = bytes }

  held_here : (held : HeldKeys) (number : ℕ) → held_key (with_held_key number own_key held) number ≡ Some own_key
  held_here held number = map_get-insert nat_cmp_total held number own_key number ∙ ap (λ b. cond b (Some own_key) (held_key held number)) (unsigned_tied number number ∙ eq-eqb number number refl)

  held_other : (held : HeldKeys) (number handle : ℕ) → handle ≢ number → held_key (with_held_key number own_key held) handle ≡ held_key held handle
  held_other held number handle differ = map_get-insert nat_cmp_total held number own_key handle ∙ ap (λ b. cond b (Some own_key) (held_key held handle)) (unsigned_tied handle number ∙ ne_eqb handle number differ)

  others_held : (held : Option HeldKeys) (number handle : ℕ) (P : HeldKey → Type 0) → handle ≢ number → HoldsHandle held handle P → HoldsHandle (option_map (with_held_key number own_key) held) handle P
  others_held None number handle P differ is = tt
  others_held (Some keys) number handle P differ is = subst (λ (o : Option HeldKey). IsSomeKey o P) (sym (held_other keys number handle differ)) is

  others_lack : (held : Option HeldKeys) (number handle : ℕ) → handle ≢ number → Lacks held handle → Lacks (option_map (with_held_key number own_key) held) handle
  others_lack None number handle differ is = tt
  others_lack (Some keys) number handle differ is = held_other keys number handle differ ∙ is

  -- the device has the new key too
  pub device_gains : (held : Option HeldKeys) → HoldsKeys held m → HoldsKeys (option_map (with_held_key (m.found + m.calls) own_key) held) after
  device_gains held d = record {
    there = λ q k e opaque. in_device q k (old_or_new q k e) opaque;
    new = λ handle le. let apart : handle ≢ m.found + m.calls = omega (arith, le) in others_lack held (m.found + m.calls) handle apart (d.new handle (omega (arith, le)));
  } where
    here : (held : Option HeldKeys) → HoldsHandle (option_map (with_held_key (m.found + m.calls) own_key) held) (m.found + m.calls) (λ h. h ≡ own_key)
    here None = tt
    here (Some keys) = subst (λ (o : Option HeldKey). IsSomeKey o (λ h. h ≡ own_key)) (sym (held_here keys (m.found + m.calls))) refl

    in_device : (q : ℕ) (k : Key) → IsOldOrNew q k → is_opaque k.attributes ≡ true → HoldsHandle (option_map (with_held_key (m.found + m.calls) own_key) held) k.number (λ h. h ≡ record { key_type = k.attributes.key_type.0; bytes = k.bytes })
    in_device q k (inl own) opaque = subst (λ (x : Key). HoldsHandle (option_map (with_held_key (m.found + m.calls) own_key) held) x.number (λ h. h ≡ record { key_type = x.attributes.key_type.0; bytes = x.bytes })) own.1 (here held)
    in_device q k (inr old) opaque = let g = (sound.keys q k old.1).given in let apart : k.number ≢ m.found + m.calls = omega (arith, g) in
        others_held held (m.found + m.calls) k.number _ apart (d.there q k old.1 opaque)

  -- a device that failed to take it has it or not, and the other keys as before
  pub device_failed : (held held' : Option HeldKeys) → (held' ≡ held) ⊎ (held' ≡ option_map (with_held_key (m.found + m.calls) own_key) held) → HoldsKeys held m → HoldsKeys held' (counted m)
  device_failed held held' (inl same) d = subst (λ (x : Option HeldKeys). HoldsKeys x (counted m)) (sym same) (record { there = d.there; new = λ handle le. d.new handle (omega (arith, le)) })
  device_failed held held' (inr more) d = subst (λ (x : Option HeldKeys). HoldsKeys x (counted m)) (sym more) (record {
    there = λ q k e opaque. let g = (sound.keys q k e).given in let apart : k.number ≢ m.found + m.calls = omega (arith, g) in others_held held (m.found + m.calls) k.number _ apart (d.there q k e opaque);
    new = λ handle le. let apart : handle ≢ m.found + m.calls = omega (arith, le) in others_lack held (m.found + m.calls) handle apart (d.new handle (omega (arith, le)));
  })

  -- THE SLOT

  -- what stands in a slot that was filled with it: the bytes of a local key, and none of one that the device has
  pub local_fills : is_opaque recorded ≡ false → SlotHasKey (full_slot (m.found + m.calls) (identified recorded id) bytes) new
  local_fills is = record { number = refl; attributes = refl; bytes = bytes-buffer_of bytes ∙ sym (ap (λ b. cond b [] bytes) is) }

  pub opaque_fills : is_opaque recorded ≡ true → SlotHasKey (full_slot (m.found + m.calls) (identified recorded id) []) new
  opaque_fills is = record { number = refl; attributes = refl; bytes = bytes-buffer_of [] ∙ sym (ap (λ b. cond b [] bytes) is) }
