-- The name that was meant, where a text is none.
use Rattle.std.specs.{Prelude.ℕ, Prelude.◌≤◌, Prelude.◌<◌, Prelude.◌/◌, Prelude.List, Prelude.Option, Prelude.All, Prelude.Contains, Prelude.length, Prelude.map, Prelude.nat_eq, Char.to_ascii_uppercase, Option.MatchOption}
use Rattle.strsim.specs.Edits.{levenshtein_row}
use Rattle.psa_names.specs.{Tables.NameTable, Tables.algorithms, Tables.key_types, Tables.lifetimes, Tables.steps, Tables.usages, declared.near.Kind.Kind}
use Rattle.psa_names.specs.declared.near.Kind.TheVariants as kind

-- the names of a kind
abbrev pub table_of : Kind → NameTable
table_of kind.KeyType = key_types
table_of kind.Usage = usages
table_of kind.Algorithm = algorithms
table_of kind.Lifetime = lifetimes
table_of kind.Step = steps

abbrev pub name_texts : NameTable → List (List ℕ)
name_texts names = map (λ r. r.1) names

-- how many letters of a text are changed, left out or put in where it becomes a name (Levenshtein's distance); letters of
-- either case are the same
unfoldable pub letters_changed : (text name : List ℕ) → ℕ
letters_changed text name = levenshtein_row nat_eq (map to_ascii_uppercase text) name (length name)

-- one of the names, which at most half of the text's letters have to change for, and none fewer
pub record IsNearest (names : List (List ℕ)) (text name : List ℕ) : Type 0 where
  pub one : Contains names name
  pub near : letters_changed text name ≤ length text / 2
  pub nearest : All (λ other. letters_changed text name ≤ letters_changed text other) names

-- such a name, or none where more of the letters have to change for each
abbrev pub IsNear : List (List ℕ) → List ℕ → Option (List ℕ) → Type 0
IsNear names text near = MatchOption near (All (λ other. length text / 2 < letters_changed text other) names) (IsNearest names text)
