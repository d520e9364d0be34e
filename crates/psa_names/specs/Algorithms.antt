-- An algorithm number by the name of its algorithm, and the length of a MAC's or an AEAD's tag behind it.
use Rattle.std.specs.{Prelude.ℕ, Prelude.◌==◌, Prelude.◌^◌, Prelude.false, Prelude.Bool, Prelude.◌||◌, Prelude.if◌then◌else◌, Prelude.List, Prelude.[], Prelude.◌++◌, Prelude.find, Prelude.length, Prelude.take, Prelude.drop, Prelude.codes, Prelude.Option, Prelude.Some, Prelude.None, Prelude.option_and_then, Prelude.decimal, Fmt.digits, List.position_or_len, Option.option_map, Option.option_or, Option.unwrap_or, Str.bytes_eq}
use Rattle.alg_encoding.specs.Encoding.{base_of, tag_length_of, minimum_of, truncated_of, at_least_of}
use Rattle.script_lang.specs.Numbers.{number}
use Rattle.psa_names.specs.{declared.algorithms.Tag.Tag, Tables.algorithms, Names.number_named}
use Rattle.psa_names.specs.declared.algorithms.Tag.TheVariants.{Whole, Cut, AtLeast}

-- the number that an algorithm and its tag make: PSA_ALG_TRUNCATED_MAC or PSA_ALG_AEAD_WITH_SHORTENED_TAG, and
-- PSA_ALG_AT_LEAST_THIS_LENGTH_MAC or PSA_ALG_AEAD_WITH_AT_LEAST_THIS_LENGTH_TAG
abbrev pub tagged : Tag → ℕ → Option ℕ
tagged Whole whole = Some whole
tagged (Cut length) whole = truncated_of whole length
tagged (AtLeast length) whole = at_least_of whole length

-- what stands behind an algorithm's name
abbrev pub tag_text : Tag → List ℕ
tag_text Whole = []
tag_text (Cut length) = codes "/" ++ decimal length
tag_text (AtLeast length) = codes ">=" ++ decimal length

-- the tag that a number states
abbrev pub stated_tag : ℕ → Tag
stated_tag n = unwrap_or (option_or (option_map Cut (tag_length_of n)) (option_map AtLeast (minimum_of n))) Whole

abbrev pub gives : Option ℕ → ℕ → Bool
gives (Some m) n = m == n
gives None n = false

-- the tag with which an algorithm makes a number
unfoldable pub tag_of : (whole n : ℕ) → Option Tag
tag_of whole n =
    if whole == n then Some Whole
    else if gives (tagged (stated_tag n) whole) n then Some (stated_tag n)
    else None

-- the name of a number's base, and the tag behind it
unfoldable pub algorithm_name : ℕ → Option (List ℕ)
algorithm_name n =
    option_and_then (λ r. option_map (λ tag. r.1 ++ tag_text tag) (tag_of r.0 n)) (find (λ r. base_of r.0 == base_of n) algorithms)

unfoldable pub algorithm_text : ℕ → List ℕ
algorithm_text n = unwrap_or (algorithm_name n) (digits 16 false n)

-- a length of one or two decimal digits behind a mark
unfoldable pub length_behind : List ℕ → List ℕ → Option ℕ
length_behind mark text =
    if bytes_eq (take (length mark) text) mark then number 10 2 100 (drop (length mark) text) else None

unfoldable pub read_tag : List ℕ → Option Tag
read_tag text =
    if length text == 0 then Some Whole
    else option_or (option_map Cut (length_behind (codes "/") text)) (option_map AtLeast (length_behind (codes ">=") text))

-- a name ends before the first `/` or `>`
abbrev pub name_length : List ℕ → ℕ
name_length text = position_or_len (λ c. c == 47 || c == 62) text

unfoldable pub algorithm_named : List ℕ → Option ℕ
algorithm_named text =
    option_and_then (λ whole. option_and_then (λ tag. tagged tag whole) (read_tag (drop (name_length text) text)))
    (number_named algorithms (take (name_length text) text))

unfoldable pub read_algorithm : List ℕ → Option ℕ
read_algorithm text = option_or (number 16 8 (2 ^ 32) text) (algorithm_named text)
