-- A usage by the names of its flags, with commas between them.
use Rattle.std.specs.{Prelude.ℕ, Prelude.◌==◌, Prelude.◌^◌, Prelude.false, Prelude.Bool, Prelude.not, Prelude.bit_and, Prelude.bit_or, Prelude.if◌then◌else◌, Prelude.List, Prelude.[], Prelude.◌∷◌, Prelude.◌++◌, Prelude.map, Prelude.filter, Prelude.codes, Prelude.Option, Prelude.Some, Prelude.option_and_then, Fmt.digits, List.join_with_byte, List.slice_split}
use Rattle.psa_names.specs.{Tables.NameTable, Tables.usages, Names.read_in}

abbrev pub states_flag : ℕ → ℕ → Bool
states_flag usage flag = not (bit_and usage flag == 0)

-- the bits that have no name
abbrev pub unnamed : ℕ → ℕ
unnamed usage = bit_and usage 0xffff00f8

abbrev pub names_of : NameTable → ℕ → List (List ℕ)
names_of names usage = map (λ r. r.1) (filter (λ r. states_flag usage r.0) names)

-- the names of the flags, and the bits that have none as one number in hex
abbrev pub flag_texts : ℕ → List (List ℕ)
flag_texts usage =
    names_of usages usage
    ++ (if unnamed usage == 0 then [] else digits 16 false (unnamed usage) ∷ [])

unfoldable pub usage_text : ℕ → List ℕ
usage_text usage = if usage == 0 then codes "0" else join_with_byte 44 (flag_texts usage)

-- a flag's name, or bits in hex
unfoldable pub read_flag : List ℕ → Option ℕ
read_flag text = read_in usages 8 (2 ^ 32) text

-- a usage with the flags of these texts
unfoldable pub with_flags : ℕ → List (List ℕ) → Option ℕ
with_flags usage [] = Some usage
with_flags usage (text ∷ texts) = option_and_then (λ flag. with_flags (bit_or usage flag) texts) (read_flag text)

-- flags by name or number, in any order, with commas between them; a repeated one counts once
unfoldable pub read_usage : List ℕ → Option ℕ
read_usage text = with_flags 0 (slice_split (λ c. c == 44) text)
