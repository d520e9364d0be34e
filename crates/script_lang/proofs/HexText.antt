-- The hex text of bytes in pieces.

use Rattle.std.proofs.Common.{List, [], ap, refl, slice_index, ℕ, ◌%◌, ◌++◌, ◌/◌, ◌∷◌, ◌≡◌}
use Rattle.script_lang.proofs.Common.{encode_lower, encode_with, lower_digits}

pub encode_joined : (front rest : List ℕ) → encode_lower (front ++ rest) ≡ encode_lower front ++ encode_lower rest
unfolding encode_with
encode_joined [] rest = refl
encode_joined (b ∷ bs) rest = ap (λ l. slice_index lower_digits (b / 16) ∷ slice_index lower_digits (b % 16) ∷ l) (encode_joined bs rest)
