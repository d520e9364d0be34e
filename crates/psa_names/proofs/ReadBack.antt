-- What is written of a number of one name at most reads back to it.
use Rattle.std.proofs.Common.{List, None, Option, Some, ap, eqb, eqb-true, false, find, refl, true, ℕ, ◌<◌, ◌^◌, ◌∙◌, ◌≡◌, ◌≤◌, Bool}
use Rattle.std.specs.{Fmt.digits, List.list_all, Option.option_map, Option.option_or, Option.unwrap_or}
use Rattle.script_lang.specs.Numbers.{number_from}
use Rattle.psa_names.specs.{Algorithms.gives, Names.number_named, Names.read_in, Names.name_or_hex, Tables.NameTable, Tables.key_types, Tables.lifetimes, Tables.steps}
use Rattle.psa_names.proofs.{Found.find_facts, HexText.hex_reads}

pub gives-true : (o : Option ℕ) (n : ℕ) → gives o n ≡ true → o ≡ Some n
gives-true None n h = absurd (cc)
gives-true (Some m) n h = ap Some (eqb-true m n h)

pub hex_is_read : (names : NameTable) (most limit n : ℕ) → 1 ≤ most → most ≤ 64 → n < 16 ^ most → n < limit → read_in names most limit (digits 16 false n) ≡ Some n
hex_is_read names most limit n one h below fits = ap (λ o. option_or o (number_named names (digits 16 false n))) (hex_reads most limit n one h below fits)

-- whether each name of a table reads as its number
abbrev pub are_read : NameTable → ℕ → ℕ → Bool
are_read names most limit = list_all (λ r. gives (read_in names most limit r.1) r.0) names

by_name : (names : NameTable) (most limit n : ℕ) (o : Option (ℕ × List ℕ)) → are_read names most limit ≡ true → read_in names most limit (digits 16 false n) ≡ Some n →
    find (λ r. eqb r.0 n) names ≡ o → read_in names most limit (unwrap_or (option_map (λ (r : ℕ × List ℕ). r.1) o) (digits 16 false n)) ≡ Some n
by_name names most limit n None all hex is = hex
by_name names most limit n (Some r) all hex is =
    let facts = find_facts (λ r. eqb r.0 n) (λ r. gives (read_in names most limit r.1) r.0) names r all is in
    gives-true (read_in names most limit r.1) r.0 facts.1 ∙ ap Some (eqb-true r.0 n facts.0)

pub name_is_read : (names : NameTable) (most limit n : ℕ) → are_read names most limit ≡ true → 1 ≤ most → most ≤ 64 → n < 16 ^ most → n < limit →
    read_in names most limit (name_or_hex names n) ≡ Some n
name_is_read names most limit n all one h below fits = by_name names most limit n _ all (hex_is_read names most limit n one h below fits) refl

pub key_types_read : are_read key_types 4 (2 ^ 16) ≡ true
unfolding key_types number_from
key_types_read = refl

pub lifetimes_read : are_read lifetimes 8 (2 ^ 32) ≡ true
unfolding lifetimes number_from
lifetimes_read = refl

pub steps_read : are_read steps 4 (2 ^ 16) ≡ true
unfolding steps number_from
steps_read = refl
