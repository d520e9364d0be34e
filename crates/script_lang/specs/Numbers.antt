-- Numbers as texts.
use Rattle.std.specs.{Prelude.ℕ, Prelude.◌+◌, Prelude.◌*◌, Prelude.◌||◌, Prelude.nat_lt, Prelude.nat_le, Prelude.List, Prelude.[], Prelude.◌∷◌, Prelude.length, Prelude.if◌then◌else◌, Prelude.Option, Prelude.Some, Prelude.None, Prelude.option_and_then, Char.digit_value}

-- a digit in a base, at most 16, in either case
abbrev pub digit_in : ℕ → ℕ → Option ℕ
digit_in base c = if nat_lt (digit_value c) base then Some (digit_value c) else None

-- the digits from the left, after a front that stands for a number
unfoldable pub number_from : ℕ → ℕ → List ℕ → Option ℕ
number_from base front [] = Some front
number_from base front (c ∷ cs) = option_and_then (λ d. number_from base (front * base + d) cs) (digit_in base c)

-- a number of one to so many digits, below a limit
abbrev pub number : ℕ → ℕ → ℕ → List ℕ → Option ℕ
number base most limit text =
    if nat_lt (length text) 1 || nat_lt most (length text) then None
    else option_and_then (λ n. if nat_lt n limit then Some n else None) (number_from base 0 text)

abbrev pub from_least : ℕ → Option ℕ → Option ℕ
from_least least number = option_and_then (λ n. if nat_le least n then Some n else None) number
