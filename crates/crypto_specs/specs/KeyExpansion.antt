-- The key schedule of AES (FIPS 197, 5.2), as the list of its bytes, four to a word.
use Rattle.std.specs.Prelude.{ℕ, zero, suc, ◌+◌, ◌-◌, ◌*◌, ◌/◌, ◌%◌, cond, nat_lt, eqb, ◌&&◌, bit_xor, List, [], ◌∷◌, ◌++◌, slice_index, length}
use Rattle.crypto_specs.specs.{Field.xtime, Sbox.sbox}

-- word i of a schedule
abbrev pub word_at : List ℕ → ℕ → List ℕ
word_at w i = slice_index w (4 * i) ∷ slice_index w (4 * i + 1) ∷ slice_index w (4 * i + 2) ∷ slice_index w (4 * i + 3) ∷ []

-- the sum of two words
abbrev pub xor_words : List ℕ → List ℕ → List ℕ
xor_words a b =
    bit_xor (slice_index a 0) (slice_index b 0) ∷ bit_xor (slice_index a 1) (slice_index b 1) ∷
    bit_xor (slice_index a 2) (slice_index b 2) ∷ bit_xor (slice_index a 3) (slice_index b 3) ∷ []

-- SubWord
abbrev pub sub_word : List ℕ → List ℕ
sub_word t = sbox (slice_index t 0) ∷ sbox (slice_index t 1) ∷ sbox (slice_index t 2) ∷ sbox (slice_index t 3) ∷ []

-- RotWord
abbrev pub rot_word : List ℕ → List ℕ
rot_word t = slice_index t 1 ∷ slice_index t 2 ∷ slice_index t 3 ∷ slice_index t 0 ∷ []

-- x to the power n
unfoldable pub power_of_x : ℕ → ℕ
power_of_x zero = 1
power_of_x (suc n) = xtime (power_of_x n)

-- Rcon j
abbrev pub round_constant : ℕ → List ℕ
round_constant j = power_of_x (j - 1) ∷ 0 ∷ 0 ∷ 0 ∷ []

-- what is xored into the word nk before word i, where t is the word before it
abbrev pub schedule_core : ℕ → ℕ → List ℕ → List ℕ
schedule_core nk i t =
    cond (eqb (i % nk) 0) (xor_words (sub_word (rot_word t)) (round_constant (i / nk)))
    (cond (nat_lt 6 nk && eqb (i % nk) 4) (sub_word t) t)

-- word i of a schedule, from the words before it
abbrev pub next_word : ℕ → List ℕ → ℕ → List ℕ
next_word nk w i = xor_words (word_at w (i - nk)) (schedule_core nk i (word_at w (i - 1)))

-- the schedule w with word i added
abbrev pub add_word : ℕ → ℕ → List ℕ → List ℕ
add_word nk i w = w ++ next_word nk w i

-- the key of nk words, and n words after it (5.2)
unfoldable pub expanded : ℕ → List ℕ → ℕ → List ℕ
expanded nk k zero = k
expanded nk k (suc n) = add_word nk (nk + n) (expanded nk k n)

-- the number of words of a key, and of rounds (5)
abbrev pub key_words : List ℕ → ℕ
key_words k = length k / 4

abbrev pub round_count : List ℕ → ℕ
round_count k = key_words k + 6

-- KeyExpansion (5.2)
unfoldable pub key_schedule : List ℕ → List ℕ
key_schedule k = expanded (key_words k) k (4 * (round_count k + 1) - key_words k)
