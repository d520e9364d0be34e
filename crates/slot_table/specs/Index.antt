-- The row in which a table keeps its full slots by their keys' identifiers.
use Rattle.std.specs.Prelude.{◌≡◌, List, length}
use Rattle.key_index.specs.{Index.IsIndexOf, declared.index.Entry.Entry}
use Rattle.slot_table.specs.Slots.{Table, slot_at, holds_key, IsLawful}

-- a table is lawful, and a row is its index: it has each full slot once, by its key's identifier, and no other
pub record IsIndexed (t : Table) (entries : List Entry) : Type 0 where
  pub law : IsLawful t
  pub index : IsIndexOf (λ id i. holds_key id (slot_at t.slots i)) entries
  pub sized : length entries ≡ length t.recency
