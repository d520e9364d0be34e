-- The body of a cell that has a key: all that stands behind its first byte.
use Rattle.std.specs.{Prelude.◌≡◌, Prelude.◌≤◌, Prelude.◌-◌, Prelude.ℕ, Prelude.List, Prelude.◌++◌, Prelude.length, Prelude.replicate, Prelude.take, Prelude.drop, Int.w32, Int.to_le_bytes}
use Rattle.key_attributes.specs.declared.Attributes.{Attributes}
use Rattle.key_record.specs.Record.{IsKept, spelling}

-- the identifiers that persistent keys may have
abbrev pub IsPersistent : ℕ → Type 0
IsPersistent id = (1 ≤ id) × (id ≤ 0x3fffffff)

-- a key that may be kept in a cell
pub record IsKeyOf (a : Attributes) (key : List ℕ) : Type 0 where
  pub kept : IsKept a key
  pub named : IsPersistent a.id.0

-- zeros up to byte 3 of the cell, the identifier, and zeros up to byte 15
abbrev pub front_of : ℕ → List ℕ
front_of id = replicate 3 0 ++ to_le_bytes w32 id ++ replicate 8 0

-- then the record, and zeros
unfoldable pub body_of : Attributes → List ℕ → List ℕ
body_of a key = front_of a.id.0 ++ spelling a key ++ replicate (1036 - length key) 0

-- this is the body of a cell with this key
pub record HoldsKey (a : Attributes) (key body : List ℕ) : Type 0 where
  pub is_key : IsKeyOf a key
  pub spelled : body ≡ body_of a key

-- this is the body of no key
abbrev pub HoldsNoKey : List ℕ → Type 0
HoldsNoKey body = (a : Attributes) (key : List ℕ) → HoldsKey a key body → ⊥

-- this is the body of a key of this identifier
abbrev pub HoldsId : ℕ → List ℕ → Type 0
HoldsId id body = (a : Attributes) × (key : List ℕ) × HoldsKey a key body × (a.id.0 ≡ id)

-- a cell holds a key of these attributes, whose bytes begin at byte 52 and end here
pub record HasKeyUpTo (a : Attributes) (end : ℕ) (cell : List ℕ) : Type 0 where
  pub above : 52 ≤ end
  pub below : end ≤ 1076
  pub holds : HoldsKey a (take (end - 52) (drop 52 cell)) (drop 1 cell)

-- a body is of one key
abbrev pub IsOfOneKey : Type 0
IsOfOneKey = (a b : Attributes) (key other body : List ℕ) → HoldsKey a key body → HoldsKey b other body → (a ≡ b) × (key ≡ other)
