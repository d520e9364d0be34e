-- A number by its name, or in hex as a script has it.
use Rattle.std.specs.{Prelude.ℕ, Prelude.◌==◌, Prelude.◌^◌, Prelude.false, Prelude.List, Prelude.Option, Prelude.find, Fmt.digits, Option.option_map, Option.option_or, Option.unwrap_or, Str.str_eq_ignore_ascii_case}
use Rattle.script_lang.specs.Numbers.{number}
use Rattle.psa_names.specs.Tables.{NameTable, key_types, lifetimes, steps}

abbrev pub name_of : NameTable → ℕ → Option (List ℕ)
name_of names n = option_map (λ r. r.1) (find (λ r. r.0 == n) names)

-- a name may be written in small letters too
abbrev pub number_named : NameTable → List ℕ → Option ℕ
number_named names text = option_map (λ r. r.0) (find (λ r. str_eq_ignore_ascii_case r.1 text) names)

-- the name, or else the number in hex, in small letters and without leading zeros
abbrev pub name_or_hex : NameTable → ℕ → List ℕ
name_or_hex names n = unwrap_or (name_of names n) (digits 16 false n)

-- what a script has as a number is that number, and else it is a name
abbrev pub read_in : NameTable → (most limit : ℕ) → List ℕ → Option ℕ
read_in names most limit text = option_or (number 16 most limit text) (number_named names text)

unfoldable pub key_type_text : ℕ → List ℕ
key_type_text n = name_or_hex key_types n

unfoldable pub read_key_type : List ℕ → Option ℕ
read_key_type text = read_in key_types 4 (2 ^ 16) text

unfoldable pub lifetime_text : ℕ → List ℕ
lifetime_text n = name_or_hex lifetimes n

unfoldable pub read_lifetime : List ℕ → Option ℕ
read_lifetime text = read_in lifetimes 8 (2 ^ 32) text

unfoldable pub step_text : ℕ → List ℕ
step_text n = name_or_hex steps n

unfoldable pub read_step : List ℕ → Option ℕ
read_step text = read_in steps 4 (2 ^ 16) text
