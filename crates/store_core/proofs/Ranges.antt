-- As many open cells have identifiers of a range as there are persistent keys of it.
use Rattle.store_core.proofs.Common.{and_from, and_parts, ap, arith, Bool, cases_eq, cell_count, cell_state, CellState, cond, count_by, count_persistent, count_by_more_no, count_by_more_yes, creation_of_state, eq-eqb, eqb-true, false, false≢true, Free, false_from_ne_true, has_id, has_secure_element, IsDirectory, IsNamed, MatchOption, IsSoundStore, low_id, lt-ltb, nat_le, is_open, is_some, is_volatile, Key, length, List, map_get, map_get-empty, map_get-remove, map_get-retain_keys, map_len, map_remove, Model, nat_cmp_total, nat_cmp-IsAntisymmetric, None, Open, Option, ranked, refl, retain_keys, same_map, Some, suc, sym, take, true, unsigned_tied, zero, ℕ, ⊎_elim, ◌&&◌, ◌||◌, ◌+◌, ◌-◌, ◌/◌, ◌<◌, ◌==◌, ◌^◌, ◌∙◌, ◌≡◌, ◌≤◌}
use Rattle.std.specs.FinMap.{FinMap as map_FinMap, empty as map_empty, len-empty as map_len-empty, len-remove as map_len-remove}
use Rattle.std.specs.{Ordering.nat_cmp, declared.cmp.Ordering.TheVariants.Equal}
use Rattle.std.proofs.{lemmas.List.take_all, lemmas.Bool.ltb-true}
use Rattle.key_slots.proofs.Sums.{total, total-none, into_map}
use Rattle.store_core.specs.Limits.{HasRoom, IsFirstOver, IsRangeFull}
use Rattle.key_cells.specs.Directory.{is_of_range}
use Rattle.store_model.specs.{declared.limits.Limits.Limits, Prelude.count_in_range, Prelude.is_in_range, Prelude.is_low, Prelude.is_per_range, Prelude.lacks_room, Prelude.persistent_limit, Prelude.range_limit}
use Rattle.store_core.proofs.Checked.{id_in, opens_so}

-- states counted by their places
one_more : (p : CellState → Bool) (slots : List CellState) (n before : ℕ) → n < length slots → before ≡ count_by p (take n slots) → (b : Bool) → p (cell_state slots n) ≡ b → cond b 1 0 + before ≡ count_by p (take (suc n) slots)
one_more p slots n before lt same true is = omega (arith, same, count_by_more_yes p slots n Free lt is, ap (λ (k : ℕ). count_by p (take k slots)) (n_and_one n))
  where
    n_and_one : (n : ℕ) → n + 1 ≡ suc n
    n_and_one n = omega arith
one_more p slots n before lt same false is = omega (arith, same, count_by_more_no p slots n Free lt is, ap (λ (k : ℕ). count_by p (take k slots)) (n_and_one n))
  where
    n_and_one : (n : ℕ) → n + 1 ≡ suc n
    n_and_one n = omega arith

total_taken : (p : CellState → Bool) (slots : List CellState) (n : ℕ) → n ≤ length slots → total (λ c. cond (p (cell_state slots c)) 1 0) n ≡ count_by p (take n slots)
unfolding total
total_taken p slots zero le = refl
total_taken p slots (suc n) le = one_more p slots n (total (λ c. cond (p (cell_state slots c)) 1 0) n) (omega (arith, le)) (total_taken p slots n (omega (arith, le))) (p (cell_state slots n)) refl

-- each key of a map has a place among so many that pass
abbrev ArePlaced : {X : Type 0} → map_FinMap nat_cmp X → (ℕ → ℕ) → (ℕ → Bool) → ℕ → Type 0
ArePlaced m f t n = (q : ℕ) → is_some (map_get m q) ≡ true → (c : ℕ) × (c < n) × (t c ≡ true) × (f c ≡ q)

no_keys : {X : Type 0} (m : map_FinMap nat_cmp X) (f : ℕ → ℕ) (t : ℕ → Bool) → ArePlaced m f t 0 → map_len m ≡ 0
no_keys {X} m f t placed = ap map_len (same_map nat_cmp_total nat_cmp-IsAntisymmetric m (map_empty {X = X} {R = nat_cmp}) (λ q. none q (map_get m q) refl)) ∙ map_len-empty nat_cmp X
  where
    none : (q : ℕ) (o : Option X) → map_get m q ≡ o → map_get m q ≡ map_get (map_empty {X = X} {R = nat_cmp}) q
    none q None is = is ∙ sym (map_get-empty nat_cmp q)
    none q (Some x) is = absurd (omega (arith, (placed q (ap is_some is)).1))

module _ {X : Type 0} (m : map_FinMap nat_cmp X) (f : ℕ → ℕ) (t : ℕ → Bool) (n : ℕ) (placed : ArePlaced m f t (suc n)) where
  earlier : (q : ℕ) → (f n ≡ q → t n ≡ false) → is_some (map_get m q) ≡ true → (c : ℕ) × (c < n) × (t c ≡ true) × (f c ≡ q)
  earlier q other some =
      let p = placed q some in
      (p.0, ⊎_elim (λ last. absurd (false≢true (sym (other (ap f (sym last) ∙ p.3)) ∙ (ap t (sym last) ∙ p.2)))) (λ differs. omega (arith, p.1, differs)) (cases_eq p.0 n), p.2, p.3)

  got : (q : ℕ) → map_get (map_remove m (f n)) q ≡ cond (q == f n) None (map_get m q)
  got q = map_get-remove nat_cmp_total m (f n) q ∙ ap (λ b. cond b None (map_get m q)) (unsigned_tied q (f n))

  still : (q : ℕ) (b : Bool) → (q == f n) ≡ b → is_some (cond b None (map_get m q)) ≡ true → (f n ≡ q → ⊥) × (is_some (map_get m q) ≡ true)
  still q true is some = absurd (false≢true some)
  still q false is some = (λ same. false≢true (sym is ∙ eq-eqb q (f n) (sym same)), some)

  placed_without : ArePlaced (map_remove m (f n)) f t n
  placed_without q some = let s = still q (q == f n) refl (ap is_some (sym (got q)) ∙ some) in earlier q (λ same. absurd (s.0 same)) s.1

less : (b : Bool) (k : ℕ) → k ≤ cond b (k - 1) k + 1
less true k = omega arith
less false k = omega arith

-- it has at most as many
out_of_map : {X : Type 0} (m : map_FinMap nat_cmp X) (f : ℕ → ℕ) (t : ℕ → Bool) (n : ℕ) → ArePlaced m f t n → map_len m ≤ total (λ c. cond (t c) 1 0) n
unfolding total
out_of_map m f t zero placed = omega (arith, no_keys m f t placed)
out_of_map m f t (suc n) placed = elim (t n) as (λ b. t n ≡ b → map_len m ≤ cond b 1 0 + total (λ c. cond (t c) 1 0) n) [
  | true ↦ λ is.
      let rest = out_of_map (map_remove m (f n)) f t n (placed_without m f t n placed) in
      omega (arith, rest, map_len-remove nat_cmp_total m (f n), less (is_some (map_get m (f n))) (map_len m))
  | false ↦ λ is. omega (arith, out_of_map m f t n (λ q some. earlier m f t n placed q (λ same. is) some))
] refl

-- A key of a cell of a range has an identifier of it, and the other way.
module _ (slots : List CellState) (m : Model) (d : IsDirectory slots m)
    (low : (id : ℕ) (key : Key) → map_get m.keys id ≡ Some key → is_volatile key.attributes ≡ false → is_low id ≡ true)
    (lasting : (id : ℕ) (key : Key) → map_get m.keys id ≡ Some key → is_low id ≡ true → is_volatile key.attributes ≡ false) (range : ℕ) where
  kept : (q : ℕ) → map_get (retain_keys m.keys (is_in_range range)) q ≡ cond (is_in_range range q) (map_get m.keys q) None
  kept q = map_get-retain_keys m.keys (is_in_range range) q (λ x tied. ap (is_in_range range) (sym (ranked q x Equal (sym tied))))

  of_slot : (slot : CellState) → is_of_range range slot ≡ true → (is_open slot ≡ true) × ((id_in slot / 2 ^ 26 == range) ≡ true)
  of_slot (Open id number) is = (refl, is)
  of_slot slot is = absurd (false≢true is)

  abbrev id_of : ℕ → ℕ
  id_of c = id_in (cell_state slots c)

  abbrev passes : ℕ → Bool
  passes c = is_of_range range (cell_state slots c)

  opened : (c : ℕ) → passes c ≡ true → cell_state slots c ≡ Open (id_of c) (creation_of_state (cell_state slots c))
  opened c is = opens_so (cell_state slots c) (of_slot (cell_state slots c) is).0

  has : (c : ℕ) → c < cell_count → passes c ≡ true → is_some (map_get (retain_keys m.keys (is_in_range range)) (id_of c)) ≡ true
  has c lt is =
      let key = d.only c (id_of c) (creation_of_state (cell_state slots c)) lt (opened c is) in
      let in_range = and_from (is_low (id_of c)) (id_of c / 2 ^ 26 == range) (low (id_of c) key.0 key.1 key.2) (of_slot (cell_state slots c) is).1 in
      ap is_some (kept (id_of c) ∙ (ap (λ b. cond b (map_get m.keys (id_of c)) None) in_range ∙ key.1))

  one : (c other : ℕ) → c < cell_count → other < cell_count → passes c ≡ true → passes other ≡ true → id_of c ≡ id_of other → c ≡ other
  one c other lt less is also same =
      d.one c other (id_of other) (creation_of_state (cell_state slots c)) (creation_of_state (cell_state slots other)) lt less
      (opened c is ∙ ap (λ n. Open n (creation_of_state (cell_state slots c))) same) (opened other also)

  cell_of_key : (q : ℕ) → is_some (map_get (retain_keys m.keys (is_in_range range)) q) ≡ true → (c : ℕ) × (c < cell_count) × (passes c ≡ true) × (id_of c ≡ q)
  cell_of_key q some = by (is_in_range range q) refl (map_get m.keys q) refl (ap is_some (sym (kept q)) ∙ some)
    where
      by : (b : Bool) → is_in_range range q ≡ b → (o : Option Key) → map_get m.keys q ≡ o → is_some (cond b o None) ≡ true → (c : ℕ) × (c < cell_count) × (passes c ≡ true) × (id_of c ≡ q)
      by true is (Some key) at some =
          let both = and_parts (is_low q) (q / 2 ^ 26 == range) is in
          let cell = d.there q key at (lasting q key at both.0) in
          (cell.0, cell.1, ap (is_of_range range) cell.2 ∙ both.1, ap id_in cell.2)
      by true is None at some = absurd (false≢true some)
      by false is o at some = absurd (false≢true some)

  pub range_counts : count_by (is_of_range range) slots ≡ count_in_range m.keys range
  range_counts =
      let all = total_taken (is_of_range range) slots cell_count (omega (arith, d.sized)) ∙ ap (count_by (is_of_range range)) (take_all cell_count slots (omega (arith, d.sized))) in
      omega (arith, all, into_map (retain_keys m.keys (is_in_range range)) id_of passes cell_count has one, out_of_map (retain_keys m.keys (is_in_range range)) id_of passes cell_count cell_of_key)

-- a sound store's keys are persistent exactly by their identifiers
pub low_if_persistent : (m : Model) → IsSoundStore m → (id : ℕ) (key : Key) → map_get m.keys id ≡ Some key → is_volatile key.attributes ≡ false → is_low id ≡ true
low_if_persistent m sound id key at persistent =
    let k = sound.keys id key at in
    lt-ltb id 0x40000000 (omega (arith, (low_id key.attributes (length key.bytes) (has_secure_element m) k.attributes persistent).1, k.identifier))

pub persistent_if_low : (m : Model) → IsSoundStore m → (id : ℕ) (key : Key) → map_get m.keys id ≡ Some key → is_low id ≡ true → is_volatile key.attributes ≡ false
persistent_if_low m sound id key at below = by (is_volatile key.attributes) refl
  where
    by : (b : Bool) → is_volatile key.attributes ≡ b → b ≡ false
    by false is = refl
    by true is = let made = ((sound.keys id key at).volatile is).made in absurd (omega (arith, ltb-true id 0x40000000 below, made.2))

-- whether there is no room, as the code finds it
pub full_by : (m : Model) (id kept counted : ℕ) (limits : Limits) → count_persistent m.keys ≡ kept → m.settings.limits ≡ limits → count_in_range m.keys (id / 2 ^ 26) ≡ counted
    → lacks_room m id ≡ (nat_le persistent_limit kept || (is_per_range limits && nat_le range_limit counted))
full_by m id kept counted limits kept_is limits_is counted_is =
    ap (λ n. nat_le persistent_limit n || (is_per_range m.settings.limits && nat_le range_limit (count_in_range m.keys (id / 2 ^ 26)))) kept_is
    ∙ ap (λ l. nat_le persistent_limit kept || (is_per_range l && nat_le range_limit (count_in_range m.keys (id / 2 ^ 26)))) limits_is
    ∙ ap (λ n. nat_le persistent_limit kept || (is_per_range limits && nat_le range_limit n)) counted_is

pub counts_of : (m : Model) (slots : List CellState) → IsSoundStore m → IsDirectory slots m → (range : ℕ) → count_by (is_of_range range) slots ≡ count_in_range m.keys range
counts_of m slots sound d range = range_counts slots m d (low_if_persistent m sound) (persistent_if_low m sound) range

-- a file of persistent keys has none past sixteen ranges
none_passes : (p : CellState → Bool) (slots : List CellState) → ((c : ℕ) → c < length slots → p (cell_state slots c) ≡ false) → count_by p slots ≡ 0
none_passes p slots none = sym (total_taken p slots (length slots) (omega arith) ∙ ap (count_by p) (take_all (length slots) slots (omega arith))) ∙ total-none _ (length slots) (λ c lt. ap (λ b. cond {A = ℕ} b 1 0) (none c lt))

pub few_past : (slots : List CellState) (range : ℕ) → length slots ≡ cell_count → IsNamed cell_count slots → 16 ≤ range → count_by (is_of_range range) slots ≤ range_limit
few_past slots range sized named past = omega (arith, none_passes (is_of_range range) slots (λ c lt. false_from_ne_true (is_of_range range (cell_state slots c)) (λ is. high c (omega (arith, lt, sized)) (cell_state slots c) refl is)))
  where
    high : (c : ℕ) → c < cell_count → (slot : CellState) → cell_state slots c ≡ slot → is_of_range range slot ≡ true → ⊥
    high c lt (Open id number) at is =
        let most = (named id c lt (ap (has_id id) at ∙ eq-eqb id id refl)).1 in
        omega (arith, eqb-true (id / 2 ^ 26) range is, most, past)
    high c lt slot at is = false≢true is

pub full_so : (limits : Limits) (slots : List CellState) (found : Option ℕ) → is_per_range limits ≡ true → MatchOption found ((range : ℕ) → count_by (is_of_range range) slots ≤ range_limit) (IsFirstOver slots) → MatchOption found (HasRoom limits slots) (IsRangeFull limits slots)
full_so limits slots None per few = λ h. few
full_so limits slots (Some range) per over = (per, over)
