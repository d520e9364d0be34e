-- Lists of bytes: their sums without carry, and their filling to whole blocks of 16.
use Rattle.std.specs.Prelude.{ℕ, ◌-◌, ◌%◌, List, [], ◌∷◌, ◌++◌, length, replicate, bit_xor}

-- the bytes of the two lists xored, as long as the shorter one
abbrev pub xor_bytes : List ℕ → List ℕ → List ℕ
xor_bytes [] ys = []
xor_bytes (x ∷ xs) [] = []
xor_bytes (x ∷ xs) (y ∷ ys) = bit_xor x y ∷ xor_bytes xs ys

-- a text and the fewest zeros that fill it to whole blocks
abbrev pub zero_filled : List ℕ → List ℕ
zero_filled text = text ++ replicate ((16 - length text % 16) % 16) 0
