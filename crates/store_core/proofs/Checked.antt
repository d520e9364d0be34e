-- What the table of creations has decided of a key that is to be made.
use Rattle.store_core.proofs.Common.{Agrees, and_from, and_parts, ap, arith, attribute_rows, Attributes, bit_and, Bool, cell_state, CellState, checked, cond, count_persistent, creation_of_state, eq-eqb, eqb-true, false, false_from_ne_true, false≢true, filled, first_row, FitsRecord, full_within, has_id, has_secure_element, HasNoKey, holds_key, implied_usage, InvalidArgument, is_key_type, is_lifetime, is_opaque, is_open, is_some, is_volatile, IsDirectory, IsFull, IsKeyOf, IsSoundStore, IsStated, key_is_full, key_of_slot, length, List, location, low_id, lt-ltb, map_get, map_get-retain_keys, Model, nat_tests, ne_eqb, NoKey, None, none-some, none_holds, not, not-false, NotSupported, Ok, Open, or_cases, Pairs, permits_size, persistence, ranked, refl, retain_keys, size_rows, Slot, slot_at, Some, stated_id, subst, sym, true, unless, unless-ok, ℕ, ⊎_elim, ◌%◌, ◌&&◌, ◌*◌, ◌/◌, ◌<◌, ◌==◌, ◌^◌, ◌||◌, ◌∙◌, ◌≡◌, ◌≢◌, ◌≤◌, cell_count}
use Rattle.std.specs.declared.cmp.Ordering.TheVariants.{Equal}
use Rattle.store_model.specs.Prelude.{is_low}
use Rattle.key_slots.proofs.Sums.{total-least, into_map}
use Rattle.store_core.proofs.{Kept.key_of_cell, Destroyed.needs_element}

-- THE ATTRIBUTES

-- a lifetime as the code looks at it
pub volatile_by : (a : Attributes) → a.lifetime.0 % 2 ^ 8 ≡ 0 → is_volatile a ≡ true
volatile_by a is = eq-eqb (a.lifetime.0 % 2 ^ 8) 0 is

pub local_by : (a : Attributes) → a.lifetime.0 / 2 ^ 8 ≢ 1 → is_opaque a ≡ false
local_by a is = ne_eqb (a.lifetime.0 / 2 ^ 8) 1 is

pub opaque_by : (a : Attributes) → a.lifetime.0 / 2 ^ 8 ≡ 1 → is_opaque a ≡ true
opaque_by a is = eq-eqb (a.lifetime.0 / 2 ^ 8) 1 is

kept_lifetime : (l : ℕ) (driver : Bool) → (l % 2 ^ 8 == 0) ≡ false → is_lifetime l driver ≡ true → l ≡ 1
kept_lifetime l driver lasts is =
    ⊎_elim
    (λ first. absurd (false≢true (sym lasts ∙ (and_parts (l % 2 ^ 8 == 0) (l / 2 ^ 8 == 0 || (l / 2 ^ 8 == 1 && driver)) first).0)))
    (λ second. let both = and_parts (l % 2 ^ 8 == 1) (l / 2 ^ 8 == 0) second in let low = eqb-true (l % 2 ^ 8) 1 both.0 in let high = eqb-true (l / 2 ^ 8) 0 both.1 in omega arith)
    (or_cases (l % 2 ^ 8 == 0 && (l / 2 ^ 8 == 0 || (l / 2 ^ 8 == 1 && driver))) (l % 2 ^ 8 == 1 && l / 2 ^ 8 == 0) is)

some_bytes : (key_type n : ℕ) → permits_size key_type n ≡ true → 1 ≤ n
some_bytes key_type n is = grind (arith, nat_tests)

few_bytes : (key_type n : ℕ) → permits_size key_type n ≡ true → n ≤ 1024
few_bytes key_type n is = grind (arith, nat_tests)

module _ (a : Attributes) (bytes : List ℕ) (driver : Bool) (checks : checked a (length bytes) driver ≡ Ok a) where
  abbrev passed : (first_row (attribute_rows a (length bytes) driver) ≡ None) × (filled a (length bytes) ≡ a)
  passed = unless-ok (first_row (attribute_rows a (length bytes) driver)) (filled a (length bytes)) a checks

  pub known_type : is_key_type a.key_type.0 ≡ true
  known_type = not-false (is_key_type a.key_type.0) (none_holds (attribute_rows a (length bytes) driver) 3 passed.0)

  pub known_size : permits_size a.key_type.0 (length bytes) ≡ true
  known_size = not-false (permits_size a.key_type.0 (length bytes)) (none_holds (attribute_rows a (length bytes) driver) 4 passed.0)

  pub lifetime_is : is_lifetime a.lifetime.0 driver ≡ true
  lifetime_is = not-false (is_lifetime a.lifetime.0 driver) (none_holds (attribute_rows a (length bytes) driver) 0 passed.0)

  -- only where there is a secure element is a key its own
  pub element_is : is_opaque a ≡ true → driver ≡ true
  element_is opaque = needs_element (persistence a.lifetime.0) (location a.lifetime.0) driver opaque lifetime_is

  -- what is kept in a file is local
  pub kept_local : is_volatile a ≡ false → is_opaque a ≡ false
  kept_local lasts = ap (λ n. n / 2 ^ 8 == 1) (kept_lifetime a.lifetime.0 driver lasts lifetime_is)

  pub key_of_checked : is_volatile a ≡ false → FitsRecord a → IsKeyOf a bytes
  key_of_checked lasts fits = record {
    kept = record {
      lifetime = kept_lifetime a.lifetime.0 driver lasts lifetime_is;
      size = ap (λ o. unless o (8 * length bytes)) sizes ∙ ap Ok (ap (λ (x : Attributes). x.bits) passed.1);
      some = some_bytes a.key_type.0 (length bytes) known_size;
      short = few_bytes a.key_type.0 (length bytes) known_size;
      usage = and_from (bit_and a.policy.usage.0 0xffff00f8 == 0) (implied_usage a.policy.usage.0 == a.policy.usage.0)
          (not-false (bit_and a.policy.usage.0 0xffff00f8 == 0) (none_holds (attribute_rows a (length bytes) driver) 2 passed.0)) (same_usage (implied_usage a.policy.usage.0) a.policy.usage.0 (ap (λ (x : Attributes). x.policy.usage.0) passed.1));
      fits = fits;
    };
    named = subst (λ b. IsStated b a.id.0) lasts (stated_id a (length bytes) driver checks);
  } where
    same_usage : (x y : ℕ) → x ≡ y → (x == y) ≡ true
    same_usage x y is = grind (arith, nat_tests)

    sizes : first_row (size_rows a.key_type.0 (length bytes)) ≡ None
    sizes = ap (λ b. cond (not b) (Some NotSupported) (cond (not (permits_size a.key_type.0 (length bytes))) (Some InvalidArgument) None)) known_type
        ∙ ap (λ b. cond (not b) (Some InvalidArgument) None) known_size

-- A KEY THAT ISN'T THERE

-- no cell has it
pub in_no_cell : (slots : List CellState) (m : Model) (id : ℕ) → IsDirectory slots m → map_get m.keys id ≡ None → HasNoKey slots id
in_no_cell slots m id d none c lt = false_from_ne_true (has_id id (cell_state slots c)) (λ has.
    let sized = d.sized in
    let key = key_of_cell slots m id c d (omega arith) has in
    none-some key.0 (sym none ∙ key.1))

-- and no slot
pub in_no_slot : (slots : List Slot) (m : Model) (all : List Pairs) (id : ℕ) → length slots ≡ 384 → Agrees slots m all → map_get m.keys id ≡ None → NoKey id slots
in_no_slot slots m all id sized agrees none i = false_from_ne_true (holds_key id (slot_at slots i)) (λ has.
    let key = key_of_slot slots m all id i agrees (inside i has) has in
    none-some key.0 (sym none ∙ key.1)) where
      inside : (i : ℕ) → holds_key id (slot_at slots i) ≡ true → i < 384
      inside i has = subst (λ n. i < n) sized (full_within slots i (key_is_full id (slot_at slots i) has))

-- A FULL DIRECTORY

abbrev pub id_in : CellState → ℕ
id_in (Open id number) = id
id_in slot = 0

pub opens_so : (slot : CellState) → is_open slot ≡ true → slot ≡ Open (id_in slot) (creation_of_state slot)
opens_so (Open id number) is = refl
opens_so slot is = absurd (false≢true is)

-- where each cell has a key there are as many persistent keys as cells
pub full_counts : (slots : List CellState) (m : Model) → IsDirectory slots m → IsSoundStore m → IsFull slots → cell_count ≤ count_persistent m.keys
full_counts slots m d sound full =
    let fit = into_map (retain_keys m.keys is_low) (λ c. id_in (cell_state slots c)) (λ c. is_open (cell_state slots c)) cell_count has one in
    let least = total-least (λ c. cond (is_open (cell_state slots c)) 1 0) cell_count (λ c lt. let sized = d.sized in subst (λ b. 1 ≤ cond b 1 0) (sym (full c (omega arith))) (omega arith)) in
    omega arith where
      kept : (q : ℕ) → map_get (retain_keys m.keys is_low) q ≡ cond (is_low q) (map_get m.keys q) None
      kept q = map_get-retain_keys m.keys is_low q (λ x tied. ap is_low (sym (ranked q x Equal (sym tied))))

      has : (c : ℕ) → c < cell_count → is_open (cell_state slots c) ≡ true → is_some (map_get (retain_keys m.keys is_low) (id_in (cell_state slots c))) ≡ true
      has c lt is =
          let id = id_in (cell_state slots c) in
          let key = d.only c id (creation_of_state (cell_state slots c)) lt (opens_so (cell_state slots c) is) in
          let k = sound.keys id key.0 key.1 in
          let most = (low_id key.0.attributes (length key.0.bytes) (has_secure_element m) k.attributes key.2).1 in
          let named = k.identifier in
          ap is_some (kept id ∙ (ap (λ b. cond b (map_get m.keys id) None) (lt-ltb id 0x40000000 (omega arith)) ∙ key.1))

      one : (c other : ℕ) → c < cell_count → other < cell_count → is_open (cell_state slots c) ≡ true → is_open (cell_state slots other) ≡ true → id_in (cell_state slots c) ≡ id_in (cell_state slots other) → c ≡ other
      one c other lt less is also same =
          d.one c other (id_in (cell_state slots other)) (creation_of_state (cell_state slots c)) (creation_of_state (cell_state slots other)) lt less
          (opens_so (cell_state slots c) is ∙ ap (λ n. Open n (creation_of_state (cell_state slots c))) same) (opens_so (cell_state slots other) also)
