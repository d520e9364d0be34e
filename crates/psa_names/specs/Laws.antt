-- What is written of a number reads back to it, what a script has as a number is that number, and what is built has a name.
use Rattle.std.specs.{Prelude.ℕ, Prelude.◌≡◌, Prelude.◌<◌, Prelude.List, Prelude.◌∷◌, Prelude.Option, Prelude.Some, Prelude.map, Option.is_some}
use Rattle.alg_encoding.specs.{Encoding.base_of, Table.table}
use Rattle.key_attributes.specs.Checks.{is_key_type}
use Rattle.psa_names.specs.{Names.name_of, Tables.algorithms, Tables.key_types}
use Rattle.script_lang.specs.Numbers.{number}

-- what is written of a number below the limit reads back to it
abbrev pub IsReadBack : ℕ → (ℕ → List ℕ) → (List ℕ → Option ℕ) → Type 0
IsReadBack limit text read = (n : ℕ) → n < limit → read (text n) ≡ Some n

-- a number of at most so many hex digits is read as that number
abbrev pub TakesNumbers : (most limit : ℕ) → (List ℕ → Option ℕ) → Type 0
TakesNumbers most limit read = (text : List ℕ) (n : ℕ) → number 16 most limit text ≡ Some n → read text ≡ Some n

-- a number has a type's name just where it is a key type
abbrev pub AreTypesNamed : Type 0
AreTypesNamed = (n : ℕ) → is_some (name_of key_types n) ≡ is_key_type n

-- the names of algorithms are those of NONE and of the bases that are built
abbrev pub AreBasesNamed : Type 0
AreBasesNamed = map (λ r. base_of r.0) algorithms ≡ 0 ∷ map (λ r. r.0) table
