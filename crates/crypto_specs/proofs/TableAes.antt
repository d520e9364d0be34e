-- AES with its S-box read from a table, so that the examples of the modes compute fast. It is the
-- same function.
use Rattle.std.proofs.Common.{List, [], ap, cond, eqb, false, inl, inr, length, nat_lt, refl, slice_index, suc, sym, true, zero, ℕ, ◌%◌, ◌&&◌, ◌*◌, ◌++◌, ◌+◌, ◌-◌, ◌/◌, ◌∙◌, ◌∷◌, ◌≡◌}
use Rattle.crypto_specs.proofs.Common.{add_round_key, aes_encrypt, affine_bits, cases_lt, entry, expanded, inverse_from, key_schedule, key_words, le-ltb, lt-ltb, mix_columns, rot_word, round_constant, round_count, rounds, sbox, shift_rows, state_of, sum_of_shifts, word_at, xor_words}
use Rattle.crypto_specs.proofs.Tables.{holds_values, value_of}

abbrev sbox_table : List ℕ
sbox_table =
    0x63 ∷ 0x7c ∷ 0x77 ∷ 0x7b ∷ 0xf2 ∷ 0x6b ∷ 0x6f ∷ 0xc5 ∷ 0x30 ∷ 0x01 ∷ 0x67 ∷ 0x2b ∷ 0xfe ∷ 0xd7 ∷ 0xab ∷ 0x76 ∷
    0xca ∷ 0x82 ∷ 0xc9 ∷ 0x7d ∷ 0xfa ∷ 0x59 ∷ 0x47 ∷ 0xf0 ∷ 0xad ∷ 0xd4 ∷ 0xa2 ∷ 0xaf ∷ 0x9c ∷ 0xa4 ∷ 0x72 ∷ 0xc0 ∷
    0xb7 ∷ 0xfd ∷ 0x93 ∷ 0x26 ∷ 0x36 ∷ 0x3f ∷ 0xf7 ∷ 0xcc ∷ 0x34 ∷ 0xa5 ∷ 0xe5 ∷ 0xf1 ∷ 0x71 ∷ 0xd8 ∷ 0x31 ∷ 0x15 ∷
    0x04 ∷ 0xc7 ∷ 0x23 ∷ 0xc3 ∷ 0x18 ∷ 0x96 ∷ 0x05 ∷ 0x9a ∷ 0x07 ∷ 0x12 ∷ 0x80 ∷ 0xe2 ∷ 0xeb ∷ 0x27 ∷ 0xb2 ∷ 0x75 ∷
    0x09 ∷ 0x83 ∷ 0x2c ∷ 0x1a ∷ 0x1b ∷ 0x6e ∷ 0x5a ∷ 0xa0 ∷ 0x52 ∷ 0x3b ∷ 0xd6 ∷ 0xb3 ∷ 0x29 ∷ 0xe3 ∷ 0x2f ∷ 0x84 ∷
    0x53 ∷ 0xd1 ∷ 0x00 ∷ 0xed ∷ 0x20 ∷ 0xfc ∷ 0xb1 ∷ 0x5b ∷ 0x6a ∷ 0xcb ∷ 0xbe ∷ 0x39 ∷ 0x4a ∷ 0x4c ∷ 0x58 ∷ 0xcf ∷
    0xd0 ∷ 0xef ∷ 0xaa ∷ 0xfb ∷ 0x43 ∷ 0x4d ∷ 0x33 ∷ 0x85 ∷ 0x45 ∷ 0xf9 ∷ 0x02 ∷ 0x7f ∷ 0x50 ∷ 0x3c ∷ 0x9f ∷ 0xa8 ∷
    0x51 ∷ 0xa3 ∷ 0x40 ∷ 0x8f ∷ 0x92 ∷ 0x9d ∷ 0x38 ∷ 0xf5 ∷ 0xbc ∷ 0xb6 ∷ 0xda ∷ 0x21 ∷ 0x10 ∷ 0xff ∷ 0xf3 ∷ 0xd2 ∷
    0xcd ∷ 0x0c ∷ 0x13 ∷ 0xec ∷ 0x5f ∷ 0x97 ∷ 0x44 ∷ 0x17 ∷ 0xc4 ∷ 0xa7 ∷ 0x7e ∷ 0x3d ∷ 0x64 ∷ 0x5d ∷ 0x19 ∷ 0x73 ∷
    0x60 ∷ 0x81 ∷ 0x4f ∷ 0xdc ∷ 0x22 ∷ 0x2a ∷ 0x90 ∷ 0x88 ∷ 0x46 ∷ 0xee ∷ 0xb8 ∷ 0x14 ∷ 0xde ∷ 0x5e ∷ 0x0b ∷ 0xdb ∷
    0xe0 ∷ 0x32 ∷ 0x3a ∷ 0x0a ∷ 0x49 ∷ 0x06 ∷ 0x24 ∷ 0x5c ∷ 0xc2 ∷ 0xd3 ∷ 0xac ∷ 0x62 ∷ 0x91 ∷ 0x95 ∷ 0xe4 ∷ 0x79 ∷
    0xe7 ∷ 0xc8 ∷ 0x37 ∷ 0x6d ∷ 0x8d ∷ 0xd5 ∷ 0x4e ∷ 0xa9 ∷ 0x6c ∷ 0x56 ∷ 0xf4 ∷ 0xea ∷ 0x65 ∷ 0x7a ∷ 0xae ∷ 0x08 ∷
    0xba ∷ 0x78 ∷ 0x25 ∷ 0x2e ∷ 0x1c ∷ 0xa6 ∷ 0xb4 ∷ 0xc6 ∷ 0xe8 ∷ 0xdd ∷ 0x74 ∷ 0x1f ∷ 0x4b ∷ 0xbd ∷ 0x8b ∷ 0x8a ∷
    0x70 ∷ 0x3e ∷ 0xb5 ∷ 0x66 ∷ 0x48 ∷ 0x03 ∷ 0xf6 ∷ 0x0e ∷ 0x61 ∷ 0x35 ∷ 0x57 ∷ 0xb9 ∷ 0x86 ∷ 0xc1 ∷ 0x1d ∷ 0x9e ∷
    0xe1 ∷ 0xf8 ∷ 0x98 ∷ 0x11 ∷ 0x69 ∷ 0xd9 ∷ 0x8e ∷ 0x94 ∷ 0x9b ∷ 0x1e ∷ 0x87 ∷ 0xe9 ∷ 0xce ∷ 0x55 ∷ 0x28 ∷ 0xdf ∷
    0x8c ∷ 0xa1 ∷ 0x89 ∷ 0x0d ∷ 0xbf ∷ 0xe6 ∷ 0x42 ∷ 0x68 ∷ 0x41 ∷ 0x99 ∷ 0x2d ∷ 0x0f ∷ 0xb0 ∷ 0x54 ∷ 0xbb ∷ 0x16 ∷ []

sbox_holds : holds_values sbox 0 sbox_table ≡ true
unfolding sum_of_shifts inverse_from affine_bits sbox
sbox_holds = refl

-- f at every number, read from a table where that is long enough
unfoldable pub by_table : (ℕ → ℕ) → List ℕ → ℕ → ℕ
by_table f table b = elim (nat_lt b (length table)) [ true ↦ slice_index table b | false ↦ f b ]

by_table_same : (f : ℕ → ℕ) (table : List ℕ) → holds_values f 0 table ≡ true → (b : ℕ) → f b ≡ by_table f table b
unfolding by_table
by_table_same f table h b = elim (cases_lt b (length table)) [
  | inl lt ↦ rw (by_table, lt-ltb b (length table) lt) (sym (value_of f table b h lt))
  | inr ge ↦ rw (by_table, le-ltb b (length table) ge) refl
]

-- ---- AES over any S-box

abbrev substituted : (ℕ → ℕ) → List ℕ → List ℕ
substituted s state = state_of (λ r c. s (entry state r c))

unfoldable pub rounds_by : (ℕ → ℕ) → List ℕ → List ℕ → ℕ → List ℕ
rounds_by s w block zero = add_round_key w block 0
rounds_by s w block (suc n) = add_round_key w (mix_columns (shift_rows (substituted s (rounds_by s w block n)))) (n + 1)

abbrev sub_word_by : (ℕ → ℕ) → List ℕ → List ℕ
sub_word_by s t = s (slice_index t 0) ∷ s (slice_index t 1) ∷ s (slice_index t 2) ∷ s (slice_index t 3) ∷ []

abbrev core_by : (ℕ → ℕ) → ℕ → ℕ → List ℕ → List ℕ
core_by s nk i t =
    cond (eqb (i % nk) 0) (xor_words (sub_word_by s (rot_word t)) (round_constant (i / nk)))
    (cond (nat_lt 6 nk && eqb (i % nk) 4) (sub_word_by s t) t)

unfoldable pub expanded_by : (ℕ → ℕ) → ℕ → List ℕ → ℕ → List ℕ
expanded_by s nk k zero = k
expanded_by s nk k (suc n) =
    let w : List ℕ = expanded_by s nk k n in
    w ++ xor_words (word_at w (nk + n - nk)) (core_by s nk (nk + n) (word_at w (nk + n - 1)))

unfoldable pub schedule_by : (ℕ → ℕ) → List ℕ → List ℕ
schedule_by s k = expanded_by s (key_words k) k (4 * (round_count k + 1) - key_words k)

unfoldable pub encrypt_by : (ℕ → ℕ) → List ℕ → List ℕ → List ℕ
encrypt_by s k block =
    let w : List ℕ = schedule_by s k in
    add_round_key w (shift_rows (substituted s (rounds_by s w block (round_count k - 1)))) (round_count k)

rounds_same : (w block : List ℕ) (n : ℕ) → rounds w block n ≡ rounds_by sbox w block n
unfolding rounds rounds_by
rounds_same w block zero = refl
rounds_same w block (suc n) = ap (λ (s : List ℕ). add_round_key w (mix_columns (shift_rows (substituted sbox s))) (n + 1)) (rounds_same w block n)

expanded_same : (nk : ℕ) (k : List ℕ) (n : ℕ) → expanded nk k n ≡ expanded_by sbox nk k n
unfolding expanded expanded_by
expanded_same nk k zero = refl
expanded_same nk k (suc n) =
    ap (λ (w : List ℕ). w ++ xor_words (word_at w (nk + n - nk)) (core_by sbox nk (nk + n) (word_at w (nk + n - 1)))) (expanded_same nk k n)

schedule_same : (k : List ℕ) → key_schedule k ≡ schedule_by sbox k
unfolding key_schedule schedule_by
schedule_same k = expanded_same (key_words k) k (4 * (round_count k + 1) - key_words k)

encrypt_same : (k block : List ℕ) → aes_encrypt k block ≡ encrypt_by sbox k block
unfolding aes_encrypt encrypt_by
encrypt_same k block =
    ap (λ (w : List ℕ). add_round_key w (shift_rows (substituted sbox (rounds w block (round_count k - 1)))) (round_count k)) (schedule_same k)
    ∙ ap (λ (s : List ℕ). add_round_key (schedule_by sbox k) (shift_rows (substituted sbox s)) (round_count k)) (rounds_same (schedule_by sbox k) block (round_count k - 1))

-- ---- AES by tables

unfoldable pub table_encrypt : List ℕ → List ℕ → List ℕ
table_encrypt k block = encrypt_by (by_table sbox sbox_table) k block

forward : sbox ≡ by_table sbox sbox_table
forward = λ i b. by_table_same sbox sbox_table sbox_holds b i

pub encrypts_by_table : (k : List ℕ) → aes_encrypt k ≡ table_encrypt k
unfolding table_encrypt
encrypts_by_table k = λ i block. (encrypt_same k block ∙ ap (λ (s : ℕ → ℕ). encrypt_by s k block) forward) i
