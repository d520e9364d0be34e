-- AES (FIPS 197). A state is the list of its 16 bytes, column by column: row r of column c is at
-- place r + 4 * c (3.4). Section numbers are the standard's.
use Rattle.std.specs.Prelude.{ℕ, zero, suc, ◌+◌, ◌-◌, ◌*◌, ◌%◌, ◌≡◌, ◌⊎◌, bit_xor, List, [], ◌∷◌, slice_index, length}
use Rattle.crypto_specs.specs.{Field.gf_mul, Sbox.sbox, KeyExpansion.key_schedule, KeyExpansion.round_count}

-- the state with f r c in row r of column c
abbrev pub state_of : (ℕ → ℕ → ℕ) → List ℕ
state_of f =
    f 0 0 ∷ f 1 0 ∷ f 2 0 ∷ f 3 0 ∷ f 0 1 ∷ f 1 1 ∷ f 2 1 ∷ f 3 1 ∷
    f 0 2 ∷ f 1 2 ∷ f 2 2 ∷ f 3 2 ∷ f 0 3 ∷ f 1 3 ∷ f 2 3 ∷ f 3 3 ∷ []

-- row r of column c
abbrev pub entry : List ℕ → ℕ → ℕ → ℕ
entry s r c = slice_index s (r + 4 * c)

-- SubBytes (5.1.1)
abbrev pub sub_bytes : List ℕ → List ℕ
sub_bytes s = state_of (λ r c. sbox (entry s r c))

-- ShiftRows (5.1.2)
abbrev pub shift_rows : List ℕ → List ℕ
shift_rows s = state_of (λ r c. entry s r ((c + r) % 4))

-- the product of the row a0, a1, a2, a3 and the column b0, b1, b2, b3 (4.3)
abbrev pub mixed : ℕ → ℕ → ℕ → ℕ → ℕ → ℕ → ℕ → ℕ → ℕ
mixed a0 a1 a2 a3 b0 b1 b2 b3 = bit_xor (bit_xor (bit_xor (gf_mul a0 b0) (gf_mul a1 b1)) (gf_mul a2 b2)) (gf_mul a3 b3)

-- each column's product with the matrix of the first row a0, a1, a2, a3, where each further row is the one before, turned right
abbrev pub mixed_with : ℕ → ℕ → ℕ → ℕ → List ℕ → List ℕ
mixed_with a0 a1 a2 a3 s = state_of (λ r c. mixed a0 a1 a2 a3 (entry s r c) (entry s ((r + 1) % 4) c) (entry s ((r + 2) % 4) c) (entry s ((r + 3) % 4) c))

-- MixColumns (5.1.3)
abbrev pub mix_columns : List ℕ → List ℕ
mix_columns s = mixed_with 2 3 1 1 s

-- AddRoundKey, with round key r of the schedule w (5.1.4)
abbrev pub add_round_key : List ℕ → List ℕ → ℕ → List ℕ
add_round_key w s r = state_of (λ i c. bit_xor (entry s i c) (entry w i (c + 4 * r)))

-- the state after AddRoundKey with round key 0 and then n rounds (5.1)
unfoldable pub rounds : List ℕ → List ℕ → ℕ → List ℕ
rounds w s zero = add_round_key w s 0
rounds w s (suc n) = add_round_key w (mix_columns (shift_rows (sub_bytes (rounds w s n)))) (n + 1)

-- Cipher, of nr rounds, where w is the key schedule (5.1)
abbrev pub cipher : List ℕ → ℕ → List ℕ → List ℕ
cipher w nr s = add_round_key w (shift_rows (sub_bytes (rounds w s (nr - 1)))) nr

-- a block enciphered under a key of 16, 24 or 32 bytes
unfoldable pub aes_encrypt : List ℕ → List ℕ → List ℕ
aes_encrypt k block = cipher (key_schedule k) (round_count k) block

-- a key has 16, 24 or 32 bytes (5)
abbrev pub IsKeyLength : ℕ → Type 0
IsKeyLength n = (n ≡ 16) ⊎ ((n ≡ 24) ⊎ (n ≡ 32))

-- a list that is a key
abbrev pub IsKey : List ℕ → Type 0
IsKey k = IsKeyLength (length k)
