-- A row of entries, and what a look in it costs.
use Rattle.std.specs.{Prelude.◌≡◌, Prelude.ℕ, Prelude.◌<◌, Prelude.◌≤◌, Prelude.◌+◌, Prelude.◌*◌, Prelude.◌^◌, Prelude.◌==◌, Prelude.◌&&◌, Prelude.nat_le, Prelude.Bool, Prelude.if◌then◌else◌, Prelude.List, Prelude.length, Prelude.slice_index_or, List.sum_by, List.Sorted.IsNonDecreasingBy, List.Sorted.IsPartitionPoint}
use Rattle.key_index.specs.declared.index.Entry.{Entry}

abbrev pub entry_at : List Entry → ℕ → Entry
entry_at entries i = slice_index_or entries i (record { id = 0; place = 0 })

abbrev pub IsSorted : List Entry → Type 0
IsSorted entries = IsNonDecreasingBy (λ (e : Entry). e.id) entries

-- how often a place stands in a row by this identifier
abbrev pub entries_of : ℕ → ℕ → List Entry → ℕ
entries_of id place entries = sum_by (λ (e : Entry). if e.id == id && (e.place == place) then 1 else 0) entries

-- an identifier lies from one number to another
abbrev pub is_between : (first last id : ℕ) → Bool
is_between first last id = nat_le first id && nat_le id last

-- a row has each place once by the identifier of which it has a key, and no other
abbrev pub IsIndexOf : (has_key : (id place : ℕ) → Bool) → List Entry → Type 0
IsIndexOf has_key entries = (id i : ℕ) → entries_of id i entries ≡ (if has_key id i then 1 else 0)

-- this identifier stands in a row once, with this place
abbrev pub IsAlone : ℕ → ℕ → List Entry → Type 0
IsAlone id place entries = (i : ℕ) → entries_of id i entries ≡ (if i == place then 1 else 0)

-- the identifiers before a position are less than this one, and those from it on greater
abbrev pub IsGap : ℕ → List Entry → ℕ → Type 0
IsGap id entries position = (position ≤ length entries) × IsPartitionPoint (λ (e : Entry). e.id < id) (λ (e : Entry). id < e.id) entries position

-- so many steps from one count to another as a search by halves in so many things takes at most
pub record AreHalvings (size before after : ℕ) : Type 0 where
  pub steps : ℕ
  pub added : after ≡ before + steps
  pub few : 2 ^ steps ≤ 2 * size + 1
