-- The values of options.
use Rattle.std.specs.{Prelude.ℕ, Prelude.List, Prelude.Option, Prelude.Some, Prelude.None, Prelude.bytes_eq, Prelude.find, Fmt.decimal, List.range_with_len, Result.result_ok}
use Rattle.hex.specs.Hex.{decode_sized}

-- the number, 1 to so many, that a text writes in decimal, without sign or leading zero
unfoldable pub number_to : ℕ → List ℕ → Option ℕ
number_to most text = find (λ n. bytes_eq (decimal n) text) (range_with_len 1 most)

-- the 32 bytes that 64 hex digits of either case write
abbrev pub seed_in : List ℕ → Option (List ℕ)
seed_in text = result_ok (decode_sized text 32)

-- the value that a text says, and a default where there is none
abbrev pub value_or : {X : Type 0} → X → (List ℕ → Option X) → Option (List ℕ) → Option X
value_or default value None = Some default
value_or default value (Some text) = value text
