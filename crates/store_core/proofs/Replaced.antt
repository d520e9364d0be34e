-- A store of which one key that is kept in the file has other attributes and bytes.
use Rattle.store_core.proofs.Common.{Agrees, ap, Attributes, Bool, cases_eq, cell_state, CellState, cond, eq-eqb, eqb-true, false, false≢true, has_secure_element, HeldKeys, holds_its_key, holds_key, HoldsHandle, HoldsKeys, inl, inr, is_opaque, is_volatile, is_volatile_of, IsDirectory, IsGone, IsKeyOf, IsSoundKey, IsSoundStore, Key, KeyMap, len_kept-insert, List, map_get, map_insert, map_len, map_remove, Model, nat_cmp-IsAntisymmetric, nat_cmp_total, nat_lt, ne_eqb, NoKey, None, Open, Option, Pairs, put, refl, retain_keys, same_map, same_Some, Slot, slot_at, Some, subst, sym, taken, true, ℕ, ◌<◌, ◌==◌, ◌∙◌, ◌≡◌, ◌≢◌, ◌≤◌, ◌⊎◌, cell_count}
use Rattle.store_model.specs.Prelude.{is_in_range, range_limit}
use Rattle.store_core.proofs.Kept.{HasCellKey, lasting, local, kept_checked}

-- as many keys are kept of the map
put_twice : (b : Bool) (x : Option Key) (o : Option Key) → cond b x o ≡ cond b x (cond b None o)
put_twice true x o = refl
put_twice false x o = refl

put_back : (b : Bool) (x o : Option Key) → (b ≡ true → o ≡ x) → o ≡ cond b x (cond b None o)
put_back true x o is = is refl
put_back false x o is = refl

over_removed : (keys : KeyMap) (id : ℕ) (new : Key) → map_insert keys id new ≡ map_insert (map_remove keys id) id new
over_removed keys id new = same_map nat_cmp_total nat_cmp-IsAntisymmetric _ _ (λ q.
    put keys id new q ∙ put_twice (q == id) (Some new) (map_get keys q) ∙ sym (put (map_remove keys id) id new q ∙ ap (cond (q == id) (Some new)) (taken keys id q)))

pub back_again : (keys : KeyMap) (id : ℕ) (key : Key) → map_get keys id ≡ Some key → keys ≡ map_insert (map_remove keys id) id key
back_again keys id key is = same_map nat_cmp_total nat_cmp-IsAntisymmetric _ _ (λ q.
    put_back (q == id) (Some key) (map_get keys q) (λ same. ap (map_get keys) (eqb-true q id same) ∙ is) ∙ sym (put (map_remove keys id) id key q ∙ ap (cond (q == id) (Some key)) (taken keys id q)))

pub same_count : (p : ℕ → Bool) (keys : KeyMap) (id : ℕ) (key new : Key) → map_get keys id ≡ Some key → map_len (retain_keys (map_insert keys id new) p) ≡ map_len (retain_keys keys p)
same_count p keys id key new is =
    let left = map_remove keys id in
    let none : map_get left id ≡ None = taken keys id id ∙ ap (λ b. cond b None (map_get keys id)) (eq-eqb id id refl) in
    let count : KeyMap → ℕ = λ m. map_len (retain_keys m p) in
    ap count (over_removed keys id new) ∙ len_kept-insert p left id new none ∙ sym (ap count (back_again keys id key is) ∙ len_kept-insert p left id key none)

abbrev pub replaced : Model → ℕ → Key → Model
replaced m id new = record m { keys = map_insert m.keys id new }

-- what is found in it
abbrev pub IsFoundIn : Model → (id : ℕ) → Key → (q : ℕ) → Key → Type 0
IsFoundIn m id new q k = ((q ≡ id) × (new ≡ k)) ⊎ ((q ≢ id) × (map_get m.keys q ≡ Some k))

module _ (m : Model) (id : ℕ) (new : Key) where
  pub put_here : map_get (map_insert m.keys id new) id ≡ Some new
  put_here = put m.keys id new id ∙ ap (λ b. cond b (Some new) (map_get m.keys id)) (eq-eqb id id refl)

  pub put_other : (q : ℕ) → q ≢ id → map_get (map_insert m.keys id new) q ≡ map_get m.keys q
  put_other q other = put m.keys id new q ∙ ap (λ b. cond b (Some new) (map_get m.keys q)) (ne_eqb q id other)

  found_in : (q : ℕ) (k : Key) → map_get (map_insert m.keys id new) q ≡ Some k → IsFoundIn m id new q k
  found_in q k is = elim (cases_eq q id) [
    | inl same ↦ inl (same, same_Some new k (sym put_here ∙ (ap (map_get (map_insert m.keys id new)) (sym same) ∙ is)))
    | inr other ↦ inr (other, sym (put_other q other) ∙ is)
  ]

-- A key that is kept in the file, and what was loaded of it.
module _ (m : Model) (id : ℕ) (key : Key) (a : Attributes) (bytes : List ℕ) (there : map_get m.keys id ≡ Some key) (persistent : is_volatile key.attributes ≡ false) (is : IsKeyOf a bytes) (named : a.id.0 ≡ id) where
  abbrev pub loaded : Key
  loaded = record key { attributes = a; bytes = bytes }

  abbrev pub after : Model
  after = replaced m id loaded

  key_after : (q : ℕ) (k : Key) → IsSoundStore m → IsFoundIn m id loaded q k → IsSoundKey after q k
  key_after q k s (inl here) = subst (IsSoundKey after q) here.1 (record {
    identifier = named ∙ sym here.0;
    given = (s.keys id key there).given;
    attributes = kept_checked a bytes is (has_secure_element m);
    volatile = λ volatile. absurd (false≢true (sym (lasting a bytes is) ∙ volatile));
  })
  key_after q k s (inr old) = let was = s.keys q k old.1 in record {
    identifier = was.identifier;
    given = was.given;
    attributes = was.attributes;
    volatile = λ volatile. let v = was.volatile volatile in record { from_first = v.from_first; to_last = v.to_last; made = v.made };
  }

  apart : (q r : ℕ) (k l : Key) → IsSoundStore m → IsFoundIn m id loaded q k → IsFoundIn m id loaded r l → k.number ≡ l.number → q ≡ r
  apart q r k l s (inl one) (inl two) same = one.0 ∙ sym two.0
  apart q r k l s (inl one) (inr two) same = one.0 ∙ s.numbers id r key l there two.1 (ap (λ (x : Key). x.number) one.1 ∙ same)
  apart q r k l s (inr one) (inl two) same = s.numbers q id k key one.1 there (same ∙ sym (ap (λ (x : Key). x.number) two.1)) ∙ sym two.0
  apart q r k l s (inr one) (inr two) same = s.numbers q r k l one.1 two.1 same

  pub sound_after : IsSoundStore m → IsSoundStore after
  sound_after s = record {
    keys = λ q k e. key_after q k s (found_in m id loaded q k e);
    numbers = λ q r k l e f same. apart q r k l s (found_in m id loaded q k e) (found_in m id loaded r l f) same;
    made = s.made;
    live = λ c. subst (λ n. n ≤ 16) (sym (same_count (is_volatile_of c) m.keys id key loaded there)) (s.live c);
    persistent = subst (λ n. n ≤ cell_count) (sym (same_count (λ i. nat_lt i 0x40000000) m.keys id key loaded there)) s.persistent;
    ranges = λ per range. subst (λ n. n ≤ range_limit) (sym (same_count (is_in_range range) m.keys id key loaded there)) (s.ranges per range);
    callers = s.callers;
  }

  -- the directory has it
  pub directory_after : (slots : List CellState) → IsDirectory slots m → IsDirectory slots after
  directory_after slots d = record {
    sized = d.sized;
    there = λ q k e lasts. in_cell q k (found_in m id loaded q k e) lasts;
    only = λ c q number lt at. of_cell q number (cases_eq q id) (d.only c q number lt at);
    one = d.one;
  } where
    in_cell : (q : ℕ) (k : Key) → IsFoundIn m id loaded q k → is_volatile k.attributes ≡ false → (c : ℕ) × (c < cell_count) × (cell_state slots c ≡ Open q k.number)
    in_cell q k (inl here) lasts = let c = d.there id key there persistent in (c.0, c.1, c.2 ∙ (ap (λ n. Open n key.number) (sym here.0) ∙ ap (λ (x : Key). Open q x.number) here.1))
    in_cell q k (inr old) lasts = d.there q k old.1 lasts

    of_cell : (q number : ℕ) → ((q ≡ id) ⊎ (q ≢ id)) → HasCellKey m q number → HasCellKey after q number
    of_cell q number (inl same) k =
        let own : k.0 ≡ key = same_Some k.0 key (sym k.1 ∙ (ap (map_get m.keys) same ∙ there)) in
        (loaded, ap (map_get after.keys) same ∙ put_here m id loaded, lasting a bytes is, sym (ap (λ (x : Key). x.number) own) ∙ k.3)
    of_cell q number (inr other) k = (k.0, put_other m id loaded q other ∙ k.1, k.2, k.3)

  -- a device hasn't it
  pub device_after : (held : Option HeldKeys) → HoldsKeys held m → HoldsKeys held after
  device_after held d = record {
    there = λ q k e opaque. in_device q k (found_in m id loaded q k e) opaque;
    new = d.new;
  } where
    in_device : (q : ℕ) (k : Key) → IsFoundIn m id loaded q k → is_opaque k.attributes ≡ true → HoldsHandle held k.number (λ h. h ≡ record { key_type = k.attributes.key_type.0; bytes = k.bytes })
    in_device q k (inl here) opaque = absurd (false≢true (sym (local a bytes is) ∙ (ap (λ (x : Key). is_opaque x.attributes) here.1 ∙ opaque)))
    in_device q k (inr old) opaque = d.there q k old.1 opaque

  -- slots that haven't it agree
  pub agrees_after : (slots : List Slot) (all : List Pairs) → NoKey id slots → Agrees slots m all → Agrees slots after all
  agrees_after slots all none g = record {
    each = λ i lt. let at = g.each i lt in record {
      held = at.held;
      full = λ full. let k = at.full full in
          (k.0, put_other m id loaded (slot_at slots i).attributes.id.0 (λ same. false≢true (sym (none i) ∙ holds_its_key id (slot_at slots i) full same)) ∙ k.1, k.2);
      pending = λ pending. let gone = at.pending pending in record {
        given = gone.given;
        absent = λ q k e number. not_it (slot_at slots i).creation q k gone (found_in m id loaded q k e) number;
      };
    };
    beyond = g.beyond;
    found = λ q k e volatile. in_slot q k (found_in m id loaded q k e) volatile;
  } where
    not_it : (number q : ℕ) (k : Key) → IsGone m number → IsFoundIn m id loaded q k → k.number ≡ number → ⊥
    not_it number q k gone (inl here) is = gone.absent id key there (ap (λ (x : Key). x.number) here.1 ∙ is)
    not_it number q k gone (inr old) is = gone.absent q k old.1 is

    in_slot : (q : ℕ) (k : Key) → IsFoundIn m id loaded q k → is_volatile k.attributes ≡ true → (i : ℕ) × (i < 384) × (holds_key q (slot_at slots i) ≡ true)
    in_slot q k (inl here) volatile = absurd (false≢true (sym (lasting a bytes is) ∙ (ap (λ (x : Key). is_volatile x.attributes) here.1 ∙ volatile)))
    in_slot q k (inr old) volatile = g.found q k old.1 volatile
