-- The links between the slots of recency.
use Rattle.std.specs.Prelude.{◌≡◌, ◌≤◌, ℕ, zero, suc, ◌==◌, if◌then◌else◌, List, [], ◌∷◌, length, slice_index_or, slice_set}
use Rattle.slot_table.specs.{declared.recency.Link.Link, Slots.times}

abbrev pub link_at : List Link → ℕ → Link
link_at links i = slice_index_or links i (record { older = 0; newer = 0 })

abbrev pub newer_than : List Link → ℕ → ℕ
newer_than links i = (link_at links i).newer

abbrev pub older_than : List Link → ℕ → ℕ
older_than links i = (link_at links i).older

-- the slots from one on to the newest, which links to the ends' number; at most so many
unfoldable pub slots_from : List Link → ℕ → ℕ → List ℕ
slots_from links i zero = []
slots_from links i (suc most) = if i == 384 then [] else i ∷ slots_from links (newer_than links i) most

-- all, from the oldest on
abbrev pub linked_slots : List Link → List ℕ
linked_slots links = slots_from links (newer_than links 384) 384

-- one leads to the other, and back
abbrev pub AreNeighbours : List Link → ℕ → ℕ → Type 0
AreNeighbours links i j = (newer_than links i ≡ j) × (older_than links j ≡ i)

-- a slot, or the ends' number, and a row are neighbours in turn, up to the ends
abbrev pub IsLinked : List Link → ℕ → List ℕ → Type 0
IsLinked links i [] = AreNeighbours links i 384
IsLinked links i (j ∷ row) = AreNeighbours links i j × IsLinked links j row

-- links after two numbers were made neighbours
abbrev pub links_joined : List Link → ℕ → ℕ → List Link
links_joined links i j =
    let first = slice_set links i (record (link_at links i) { newer = j }) in slice_set first j (record (link_at first j) { older = i })

-- there are 385 links, and they are those of a row
pub record AreLinksOf (row : List ℕ) (links : List Link) : Type 0 where
  pub sized : length links ≡ 385
  pub newer_within : (i : ℕ) → newer_than links i ≤ 384
  pub older_within : (i : ℕ) → older_than links i ≤ 384
  pub linked : IsLinked links 384 row
  pub apart : times 384 row ≡ 0
  pub short : length row ≤ 384
