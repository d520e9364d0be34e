-- A store of which one key is removed.
use Rattle.store_core.proofs.Common.{ap, arith, Bool, cases_eq, cases_lt, cell_state, CellState, cond, destroyed, durable_keys, eq-eqb, eqb-true, false, false≢true, Free, get_or-map, get_or-set_other, get_or-set_same, get_or_past, held_key, HeldKey, HeldKeys, HoldsHandle, HoldsKeys, inl, inr, is_volatile, IsDirectory, IsPut, IsSomeKey, IsSoundStore, kept, Key, KeyMap, Lacks, left, len_kept-insert, length, length-map, List, map_get, map_get-remove, map_len, map_remove, Model, nat_cmp-IsAntisymmetric, nat_cmp_total, ne_eqb, None, none-some, Open, Option, option_map, Puts, refl, retain_keys, same_map, same_Some, set, settled_state, settled_states, Some, Stored, stored, subst, sym, taken, true, unsigned_tied, without_key, ℕ, ◌+◌, ◌<◌, ◌==◌, ◌∙◌, ◌≡◌, ◌≢◌, ◌⊎◌, cell_count}
use Rattle.store_core.proofs.{Kept.HasCellKey, Replaced.back_again}

-- as many keys are kept of the map as without the key, and that where it counts
pub one_less : (p : ℕ → Bool) (keys : KeyMap) (id : ℕ) (key : Key) → map_get keys id ≡ Some key →
    map_len (retain_keys keys p) ≡ cond (p id) (map_len (retain_keys (map_remove keys id) p) + 1) (map_len (retain_keys (map_remove keys id) p))
one_less p keys id key is =
    let rest = map_remove keys id in
    let none : map_get rest id ≡ None = taken keys id id ∙ ap (λ b. cond b None (map_get keys id)) (eq-eqb id id refl) in
    ap (λ (m : KeyMap). map_len (retain_keys m p)) (back_again keys id key is) ∙ len_kept-insert p rest id key none

-- nothing is removed where there is no key
pub nothing_removed : (keys : KeyMap) (id : ℕ) → map_get keys id ≡ None → map_remove keys id ≡ keys
nothing_removed keys id none = same_map nat_cmp_total nat_cmp-IsAntisymmetric _ _ (λ q. taken keys id q ∙ same (q == id) (map_get keys q) (λ is. ap (map_get keys) (eqb-true q id is) ∙ none)) where
  same : (b : Bool) (o : Option Key) → (b ≡ true → o ≡ None) → cond b None o ≡ o
  same true o is = sym (is refl)
  same false o is = refl

-- THE DIRECTORY

pub settled_opens : (slot : CellState) (id number : ℕ) → settled_state slot ≡ Open id number → slot ≡ Open id number
settled_opens (Open own creation) id number is = is
settled_opens slot id number is = cc

pub settled_at : (slots : List CellState) (c : ℕ) → cell_state (settled_states slots) c ≡ settled_state (cell_state slots c)
settled_at slots c = elim (cases_lt c (length slots)) [
  | inl lt ↦ get_or-map settled_state slots c Free Free lt
  | inr past ↦ get_or_past (settled_states slots) c Free (omega (arith, past, length-map slots settled_state)) ∙ sym (ap settled_state (get_or_past slots c Free past))
]

-- a directory that differs in cells in doubt alone has the same keys
pub directory_settled : (slots slots' : List CellState) (m : Model) → length slots' ≡ cell_count → settled_states slots' ≡ settled_states slots → IsDirectory slots m → IsDirectory slots' m
directory_settled slots slots' m sized same d = record {
  sized = sized;
  there = λ q k is lasts. let c = d.there q k is lasts in (c.0, c.1, opens slots slots' c.0 q k.number same c.2);
  only = λ c q n lt at. d.only c q n lt (opens slots' slots c q n (sym same) at);
  one = λ c other q n another lt less at also. d.one c other q n another lt less (opens slots' slots c q n (sym same) at) (opens slots' slots other q another (sym same) also);
} where
  opens : (before now : List CellState) (c q n : ℕ) → settled_states now ≡ settled_states before → cell_state before c ≡ Open q n → cell_state now c ≡ Open q n
  opens before now c q n same at = settled_opens (cell_state now c) q n (sym (settled_at now c) ∙ (ap (λ (l : List CellState). cell_state l c) same ∙ (settled_at before c ∙ ap settled_state at)))

-- a cell is empty, and the others have the keys that they had
pub record IsEmptied (slots slots' : List CellState) (c : ℕ) : Type 0 where
  pub sized : length slots' ≡ cell_count
  pub inside : c < cell_count
  pub settled : settled_states slots' ≡ set (settled_states slots) c Free

module _ (slots slots' : List CellState) (c : ℕ) (sized : length slots ≡ cell_count) (e : IsEmptied slots slots' c) where
  still_open : (other id number : ℕ) → other ≢ c → cell_state slots other ≡ Open id number → cell_state slots' other ≡ Open id number
  still_open other id number differ is = settled_opens (cell_state slots' other) id number
      (sym (settled_at slots' other) ∙ (ap (λ (l : List CellState). cell_state l other) e.settled ∙ (get_or-set_other (settled_states slots) c other Free Free differ ∙ (settled_at slots other ∙ ap settled_state is))))

  was_open : (other id number : ℕ) → cell_state slots' other ≡ Open id number → (other ≢ c) × (cell_state slots other ≡ Open id number)
  was_open other id number is = elim (cases_eq other c) [
    | inl same ↦ absurd (not_open id number (sym (at_c same) ∙ now))
    | inr differ ↦ (differ, settled_opens (cell_state slots other) id number (sym (settled_at slots other) ∙ (sym (get_or-set_other (settled_states slots) c other Free Free differ) ∙ now)))
  ] where
    now : cell_state (set (settled_states slots) c Free) other ≡ Open id number
    now = sym (ap (λ (l : List CellState). cell_state l other) e.settled) ∙ (settled_at slots' other ∙ ap settled_state is)

    at_c : other ≡ c → cell_state (set (settled_states slots) c Free) other ≡ Free
    at_c same = let lt = e.inside in ap (cell_state (set (settled_states slots) c Free)) same ∙ get_or-set_same (settled_states slots) c Free Free (omega (arith, length-map slots settled_state))

    not_open : (id number : ℕ) → Free ≡ Open id number → ⊥
    not_open id number is = cc

-- THE KEYS

module _ (m : Model) (id : ℕ) where
  abbrev pub gone : Model
  gone = (destroyed m id).store

  pub none_here : map_get gone.keys id ≡ None
  none_here = taken m.keys id id ∙ ap (λ b. cond b None (map_get m.keys id)) (eq-eqb id id refl)

  pub others_stay : (q : ℕ) → q ≢ id → map_get gone.keys q ≡ map_get m.keys q
  others_stay q other = taken m.keys id q ∙ ap (λ b. cond b None (map_get m.keys q)) (ne_eqb q id other)

  pub was_there : (q : ℕ) (k : Key) → map_get gone.keys q ≡ Some k → (q ≢ id) × (map_get m.keys q ≡ Some k)
  was_there q k is = (
    (λ same. none-some k (sym none_here ∙ (ap (map_get gone.keys) (sym same) ∙ is))),
    left (q == id) (map_get m.keys q) k (sym (taken m.keys id q) ∙ is),
  )

  pub takes_out : Puts m gone id None
  takes_out = record { here = none_here; others = others_stay; given = omega arith }

  -- the file's keys are without it
  pub without_kept : IsPut (durable_keys m) (durable_keys gone) id None
  without_kept q = ap kept (taken m.keys id q) ∙ both (q == id) (map_get m.keys q) where
    both : (b : Bool) (o : Option Key) → kept (cond b None o) ≡ cond b None (kept o)
    both true o = refl
    both false o = refl

  module _ (key : Key) (there : map_get m.keys id ≡ Some key) where
    pub kept_here : (b : Bool) → is_volatile key.attributes ≡ b → durable_keys m id ≡ cond b None (Some (stored key.number key.attributes key.bytes))
    kept_here b is = ap kept there ∙ ap (λ x. cond x None (Some (stored key.number key.attributes key.bytes))) is

    -- a volatile key is none of the file's
    pub kept_same : is_volatile key.attributes ≡ true → (q : ℕ) → durable_keys gone q ≡ durable_keys m q
    kept_same volatile q = without_kept q ∙ same (q == id) (durable_keys m q) (λ is. ap (durable_keys m) (eqb-true q id is) ∙ kept_here true volatile) where
      same : (b : Bool) (o : Option Stored) → (b ≡ true → o ≡ None) → cond b None o ≡ o
      same true o is = sym (is refl)
      same false o is = refl

    -- the directory without its cell
    pub directory_emptied : (slots slots' : List CellState) (c number : ℕ) → IsEmptied slots slots' c → cell_state slots c ≡ Open id number → IsDirectory slots m → IsDirectory slots' gone
    directory_emptied slots slots' c number e at d = record {
      sized = e.sized;
      there = λ q k is lasts.
          let old = was_there q k is in
          let f = d.there q k old.1 lasts in
          (f.0, f.1, still_open slots slots' c d.sized e f.0 q k.number (λ same. old.0 (one_name q k.number id number (sym f.2 ∙ (ap (cell_state slots) same ∙ at)))) f.2);
      only = λ x q n lt is.
          let old = was_open slots slots' c d.sized e x q n is in
          let k = d.only x q n lt old.1 in
          let inside = e.inside in
          (k.0, others_stay q (λ same. old.0 (d.one x c id n number lt inside (subst (λ (i : ℕ). cell_state slots x ≡ Open i n) same old.1) at)) ∙ k.1, k.2, k.3);
      one = λ x other q n another lt less is also.
          d.one x other q n another lt less (was_open slots slots' c d.sized e x q n is).1 (was_open slots slots' c d.sized e other q another also).1;
    } where
      one_name : (q n i k : ℕ) → Open q n ≡ Open i k → q ≡ i
      one_name q n i k is = cc

    -- a volatile key has no cell
    pub directory_stays : (slots : List CellState) → is_volatile key.attributes ≡ true → IsDirectory slots m → IsDirectory slots gone
    directory_stays slots volatile d = record {
      sized = d.sized;
      there = λ q k is lasts. d.there q k (was_there q k is).1 lasts;
      only = λ c q n lt is. let k = d.only c q n lt is in (k.0, others_stay q (λ same. not_it q k same) ∙ k.1, k.2, k.3);
      one = d.one;
    } where
      not_it : (q : ℕ) {n : ℕ} → HasCellKey m q n → q ≡ id → ⊥
      not_it q k same = false≢true (sym k.2 ∙ (ap (λ (x : Key). is_volatile x.attributes) (same_Some k.0 key (sym k.1 ∙ (ap (map_get m.keys) same ∙ there))) ∙ volatile))

    -- THE DEVICE

    pub device_stays : (held : Option HeldKeys) → HoldsKeys held m → HoldsKeys held gone
    device_stays held d = record {
      there = λ q k is opaque. d.there q k (was_there q k is).1 opaque;
      new = λ handle le. d.new handle (omega (arith, le));
    }

    held_apart : (held : HeldKeys) (handle : ℕ) → handle ≢ key.number → held_key (without_key key.number held) handle ≡ held_key held handle
    held_apart held handle differ = map_get-remove nat_cmp_total held key.number handle ∙ ap (λ b. cond b None (held_key held handle)) (unsigned_tied handle key.number ∙ ne_eqb handle key.number differ)

    held_none : (held : HeldKeys) (handle : ℕ) → held_key held handle ≡ None → held_key (without_key key.number held) handle ≡ None
    held_none held handle none = elim (cases_eq handle key.number) [
      | inl same ↦ map_get-remove nat_cmp_total held key.number handle ∙ ap (λ b. cond b None (held_key held handle)) (unsigned_tied handle key.number ∙ eq-eqb handle key.number same)
      | inr differ ↦ held_apart held handle differ ∙ none
    ]

    without : (held : Option HeldKeys) → IsSoundStore m → HoldsKeys held m → HoldsKeys (option_map (without_key key.number) held) gone
    without held s d = record {
      there = λ q k is opaque. let old = was_there q k is in still _ held k.number (λ same. old.0 (s.numbers q id k key old.1 there same)) (d.there q k old.1 opaque);
      new = λ handle le. lacks held handle (d.new handle (omega (arith, le)));
    } where
      still : (P : HeldKey → Type 0) (held : Option HeldKeys) (handle : ℕ) → handle ≢ key.number → HoldsHandle held handle P → HoldsHandle (option_map (without_key key.number) held) handle P
      still P None handle differ is = tt
      still P (Some keys) handle differ is = subst (λ (o : Option HeldKey). IsSomeKey o P) (sym (held_apart keys handle differ)) is

      lacks : (held : Option HeldKeys) (handle : ℕ) → Lacks held handle → Lacks (option_map (without_key key.number) held) handle
      lacks None handle is = tt
      lacks (Some keys) handle is = held_none keys handle is

    pub device_loses : (held held' : Option HeldKeys) → IsSoundStore m → (held' ≡ held) ⊎ (held' ≡ option_map (without_key key.number) held) → HoldsKeys held m → HoldsKeys held' gone
    device_loses held held' s (inl same) d = subst (λ (x : Option HeldKeys). HoldsKeys x gone) (sym same) (device_stays held d)
    device_loses held held' s (inr less) d = subst (λ (x : Option HeldKeys). HoldsKeys x gone) (sym less) (without held s d)
