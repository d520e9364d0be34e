-- What the directory says of the keys, and keys as a file keeps them.
use Rattle.store_core.proofs.Common.{[], and_parts, and_right, ap, arith, as_stated, attribute_rows, Attributes, bit_and, Bool, cell_state, CellState, checked, cond, cond-false, creation_of_state, eq-eqb, eqb-true, false, false≢true, filled, first_row, first_row-back, has_id, HasNoKey, identified, implied_usage, InvalidArgument, is_lifetime, is_opaque, is_persistent_key, is_stated_id, is_volatile, IsDirectory, IsKeyOf, IsVolatileKey, Key, length, List, map_get, Model, nat_le, nat_tests, None, not, NotSupported, Ok, Open, Option, persistence, refl, size_rows, Some, subst, sym, true, unless, unless-ok, ℕ, ◌&&◌, ◌*◌, ◌<◌, ◌==◌, ◌∙◌, ◌∷◌, ◌≡◌, ◌≤◌, cell_count}

-- THE DIRECTORY

-- a cell's key, which is persistent
abbrev pub HasCellKey : Model → (id number : ℕ) → Type 0
HasCellKey m id number = (key : Key) × (map_get m.keys id ≡ Some key) × (is_volatile key.attributes ≡ false) × (key.number ≡ number)

pub key_of_cell : (slots : List CellState) (m : Model) (id c : ℕ) → IsDirectory slots m → c < cell_count → has_id id (cell_state slots c) ≡ true → HasCellKey m id (creation_of_state (cell_state slots c))
key_of_cell slots m id c d lt has = go (cell_state slots c) refl has where
  go : (slot : CellState) → cell_state slots c ≡ slot → has_id id slot ≡ true → HasCellKey m id (creation_of_state slot)
  go (Open own number) at is = subst (λ (n : ℕ). HasCellKey m n number) (eqb-true own id is) (d.only c own number lt at)
  go slot at is = absurd (false≢true is)

pub is_persistent : (o : Option Key) (key : Key) → o ≡ Some key → is_volatile key.attributes ≡ false → is_persistent_key o ≡ true
is_persistent o key is lasts = ap is_persistent_key is ∙ ap not lasts

-- there is no key where no slot has a volatile one and no cell has one
pub no_key : (slots : List CellState) (m : Model) (id : ℕ) → IsDirectory slots m → HasNoKey slots id → (IsVolatileKey (map_get m.keys id) → ⊥) → map_get m.keys id ≡ None
no_key slots m id d none lasts = go (map_get m.keys id) refl lasts where
  in_cell : (key : Key) → map_get m.keys id ≡ Some key → (b : Bool) → is_volatile key.attributes ≡ b → (b ≡ true → ⊥) → ⊥
  in_cell key is true volatile lasts = lasts refl
  in_cell key is false persistent lasts =
      let there = d.there id key is persistent in
      let sized = d.sized in
      let inside = there.1 in
      false≢true (sym (none there.0 (omega arith)) ∙ (ap (has_id id) there.2 ∙ eq-eqb id id refl))

  go : (o : Option Key) → map_get m.keys id ≡ o → (IsVolatileKey o → ⊥) → o ≡ None
  go None is lasts = refl
  go (Some key) is lasts = absurd (in_cell key is (is_volatile key.attributes) refl lasts)

-- THE ATTRIBUTES OF A KEY THAT IS KEPT

between : (id : ℕ) → 1 ≤ id → id ≤ 0x3fffffff → (nat_le 1 id && nat_le id 0x3fffffff) ≡ true
between id least most = grind (arith, nat_tests)

module _ (a : Attributes) (bytes : List ℕ) (is : IsKeyOf a bytes) where
  pub lasting : is_volatile a ≡ false
  lasting = ap (λ n. persistence n == 0) is.kept.lifetime

  pub local : is_opaque a ≡ false
  local = ap (λ n. is_opaque (record a { lifetime = record { 0 = n } })) is.kept.lifetime

  abbrev usage : ℕ
  usage = a.policy.usage.0

  module _ (driver : Bool) where
    sizes : (first_row (size_rows a.key_type.0 (length bytes)) ≡ None) × (8 * length bytes ≡ a.bits)
    sizes = unless-ok (first_row (size_rows a.key_type.0 (length bytes))) (8 * length bytes) a.bits is.kept.size

    bits_fit : (not (a.bits == 0) && not (a.bits == 8 * length bytes)) ≡ false
    bits_fit = and_right (not (a.bits == 0)) (not (a.bits == 8 * length bytes)) (ap not (eq-eqb a.bits (8 * length bytes) (sym sizes.1)))

    rows_pass : first_row (attribute_rows a (length bytes) driver) ≡ None
    rows_pass =
        cond-false (not (is_lifetime a.lifetime.0 driver)) (Some NotSupported) _ (ap (λ n. not (is_lifetime n driver)) is.kept.lifetime)
        ∙ cond-false (not (is_stated_id a.lifetime.0 a.id.0)) (Some InvalidArgument) _ (ap (λ n. not (is_stated_id n a.id.0)) is.kept.lifetime ∙ ap not (between a.id.0 is.named.0 is.named.1))
        ∙ cond-false (not (bit_and usage 0xffff00f8 == 0)) (Some InvalidArgument) _ (ap not (and_parts (bit_and usage 0xffff00f8 == 0) (implied_usage usage == usage) is.kept.usage).0)
        ∙ first_row-back (size_rows a.key_type.0 (length bytes)) ((not (a.bits == 0) && not (a.bits == 8 * length bytes), InvalidArgument) ∷ []) sizes.0
        ∙ cond-false (not (a.bits == 0) && not (a.bits == 8 * length bytes)) (Some InvalidArgument) None bits_fit

    abbrev with_parts : ℕ → ℕ → Attributes
    with_parts bits flags = record a { bits = bits; policy = record (a.policy) { usage = record { 0 = flags } } }

    filled_same : filled a (length bytes) ≡ a
    filled_same =
        ap (λ n. with_parts n (implied_usage usage)) sizes.1
        ∙ ap (with_parts a.bits) (eqb-true (implied_usage usage) usage (and_parts (bit_and usage 0xffff00f8 == 0) (implied_usage usage == usage) is.kept.usage).1)

    checks : checked a (length bytes) driver ≡ Ok a
    checks = ap (λ o. unless o (filled a (length bytes))) rows_pass ∙ ap (λ (x : Attributes). unless None x) filled_same

    -- they come out of the checks as they are
    pub kept_checked : checked (as_stated a) (length bytes) driver ≡ Ok (as_stated a)
    kept_checked = subst (λ (x : Attributes). checked x (length bytes) driver ≡ Ok x) (sym (ap (λ b. cond b (identified a 0) a) lasting)) checks
