-- The inverse cipher of AES (FIPS 197, 5.3).
use Rattle.std.specs.Prelude.{ℕ, zero, suc, ◌+◌, ◌-◌, ◌%◌, List}
use Rattle.crypto_specs.specs.{Sbox.inv_sbox, KeyExpansion.key_schedule, KeyExpansion.round_count, Aes.state_of, Aes.entry, Aes.mixed_with, Aes.add_round_key}

-- InvShiftRows (5.3.1)
abbrev pub inv_shift_rows : List ℕ → List ℕ
inv_shift_rows s = state_of (λ r c. entry s r ((c + 4 - r) % 4))

-- InvSubBytes (5.3.2)
abbrev pub inv_sub_bytes : List ℕ → List ℕ
inv_sub_bytes s = state_of (λ r c. inv_sbox (entry s r c))

-- InvMixColumns (5.3.3)
abbrev pub inv_mix_columns : List ℕ → List ℕ
inv_mix_columns s = mixed_with 14 11 13 9 s

-- the state after AddRoundKey with round key nr and then n inverse rounds (5.3)
unfoldable pub inv_rounds : List ℕ → ℕ → List ℕ → ℕ → List ℕ
inv_rounds w nr s zero = add_round_key w s nr
inv_rounds w nr s (suc n) = inv_mix_columns (add_round_key w (inv_sub_bytes (inv_shift_rows (inv_rounds w nr s n))) (nr - (n + 1)))

-- InvCipher, of nr rounds (5.3)
abbrev pub inv_cipher : List ℕ → ℕ → List ℕ → List ℕ
inv_cipher w nr s = add_round_key w (inv_sub_bytes (inv_shift_rows (inv_rounds w nr s (nr - 1)))) 0

-- a block deciphered
unfoldable pub aes_decrypt : List ℕ → List ℕ → List ℕ
aes_decrypt k block = inv_cipher (key_schedule k) (round_count k) block
