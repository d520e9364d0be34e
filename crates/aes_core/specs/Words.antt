-- Words of 32 bits, four bytes each, first byte highest. The columns of a state are four such words.
use Rattle.std.specs.{Prelude.ℕ, Prelude.List, Prelude.[], Prelude.◌∷◌, Prelude.slice_index, Int.w32, Int.byte_at, Int.from_be_bytes}
use Rattle.crypto_specs.specs.Prelude.{gf_mul, mixed}

-- the bytes of words
abbrev pub word_bytes : List ℕ → List ℕ
word_bytes [] = []
word_bytes (w ∷ ws) = byte_at 3 w ∷ byte_at 2 w ∷ byte_at 1 w ∷ byte_at 0 w ∷ word_bytes ws

-- the column of the bytes b0, b1, b2, b3, times the matrix whose first row is a0, a1, a2, a3 and each
-- further row the one before it turned right by one
abbrev pub mixed_column : ℕ → ℕ → ℕ → ℕ → ℕ → ℕ → ℕ → ℕ → List ℕ
mixed_column a0 a1 a2 a3 b0 b1 b2 b3 =
    mixed a0 a1 a2 a3 b0 b1 b2 b3 ∷ mixed a0 a1 a2 a3 b1 b2 b3 b0 ∷ mixed a0 a1 a2 a3 b2 b3 b0 b1 ∷ mixed a0 a1 a2 a3 b3 b0 b1 b2 ∷ []

-- the word of the products of b and four elements
abbrev pub products : ℕ → ℕ → ℕ → ℕ → ℕ → ℕ
products a0 a1 a2 a3 b = from_be_bytes w32 (gf_mul a0 b ∷ gf_mul a1 b ∷ gf_mul a2 b ∷ gf_mul a3 b ∷ [])

-- InvMixColumns of a column
abbrev pub inv_mixed_word : List ℕ → List ℕ
inv_mixed_word t = mixed_column 14 11 13 9 (slice_index t 0) (slice_index t 1) (slice_index t 2) (slice_index t 3)
