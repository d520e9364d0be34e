-- Round keys that InvMixColumns is taken of.
use Rattle.aes_core.proofs.Common.{IsInvScheduleOf, List, [], add_round_key, ap, ap₂, arith, bit_xor, byte_at, word_bytes, entry, gf_mul, gf_mul-xor, inl, inr, inv_mix_columns, inv_mixed_word, inv_rounds, inv_sbox, inv_sbox-byte, inv_sbox_of_sbox, inv_shift_rows, inv_sub_bytes, mixed, mixed_column, refl, sbox, slice_index, state_of, sym, xor_four, ℕ, ◌*◌, ◌++◌, ◌+◌, ◌-◌, ◌<◌, ◌∙◌, ◌∷◌, ◌≡◌, ◌≤◌, ◌⊎◌}
use Rattle.aes_core.proofs.{WordBytes.row_0, WordBytes.row_1, WordBytes.row_2, WordBytes.row_3, ColumnSums.list_of, RoundKeys.inv_rounds_next}

-- ---- a product with the matrix is linear

mixed-xor : (a0 a1 a2 a3 b0 b1 b2 b3 c0 c1 c2 c3 : ℕ) → b0 < 256 → b1 < 256 → b2 < 256 → b3 < 256 → c0 < 256 → c1 < 256 → c2 < 256 → c3 < 256
    → bit_xor (mixed a0 a1 a2 a3 b0 b1 b2 b3) (mixed a0 a1 a2 a3 c0 c1 c2 c3) ≡ mixed a0 a1 a2 a3 (bit_xor b0 c0) (bit_xor b1 c1) (bit_xor b2 c2) (bit_xor b3 c3)
mixed-xor a0 a1 a2 a3 b0 b1 b2 b3 c0 c1 c2 c3 h0 h1 h2 h3 k0 k1 k2 k3 =
    let m : ℕ → ℕ → ℕ = gf_mul in
    xor_four (bit_xor (bit_xor (m a0 b0) (m a1 b1)) (m a2 b2)) (m a3 b3) (bit_xor (bit_xor (m a0 c0) (m a1 c1)) (m a2 c2)) (m a3 c3)
    ∙ ap₂ bit_xor
    (xor_four (bit_xor (m a0 b0) (m a1 b1)) (m a2 b2) (bit_xor (m a0 c0) (m a1 c1)) (m a2 c2)
    ∙ ap₂ bit_xor
    (xor_four (m a0 b0) (m a1 b1) (m a0 c0) (m a1 c1) ∙ ap₂ bit_xor (sym (gf_mul-xor a0 b0 c0 h0 k0)) (sym (gf_mul-xor a1 b1 c1 h1 k1)))
    (sym (gf_mul-xor a2 b2 c2 h2 k2)))
    (sym (gf_mul-xor a3 b3 c3 h3 k3))

-- column m of the schedules: what is added to a column that InvMixColumns was taken of
keyed_column : (ws vs : List ℕ) (m b0 b1 b2 b3 : ℕ) → b0 < 256 → b1 < 256 → b2 < 256 → b3 < 256
    → word_bytes (slice_index vs m ∷ []) ≡ inv_mixed_word (word_bytes (slice_index ws m ∷ []))
    → let k = slice_index (word_bytes ws) in let v = slice_index (word_bytes vs) in let c = mixed_column 14 11 13 9 b0 b1 b2 b3 in
    bit_xor (slice_index c 0) (v (0 + 4 * m)) ∷ bit_xor (slice_index c 1) (v (1 + 4 * m)) ∷ bit_xor (slice_index c 2) (v (2 + 4 * m)) ∷ bit_xor (slice_index c 3) (v (3 + 4 * m)) ∷ []
    ≡ mixed_column 14 11 13 9 (bit_xor b0 (k (0 + 4 * m))) (bit_xor b1 (k (1 + 4 * m))) (bit_xor b2 (k (2 + 4 * m))) (bit_xor b3 (k (3 + 4 * m)))
keyed_column ws vs m b0 b1 b2 b3 h0 h1 h2 h3 e =
    let k : ℕ = slice_index ws m in
    let at : (i : ℕ) → slice_index (word_bytes (slice_index vs m ∷ [])) i ≡ slice_index (inv_mixed_word (word_bytes (k ∷ []))) i = λ i. ap (λ (l : List ℕ). slice_index l i) e in
    let k0 : byte_at 3 k < 256 = omega arith in
    let k1 : byte_at 2 k < 256 = omega arith in
    let k2 : byte_at 1 k < 256 = omega arith in
    let k3 : byte_at 0 k < 256 = omega arith in
    rw (row_0 vs m ∙ at 0, row_1 vs m ∙ at 1, row_2 vs m ∙ at 2, row_3 vs m ∙ at 3, row_0 ws m, row_1 ws m, row_2 ws m, row_3 ws m)
    (list_of
    (mixed-xor 14 11 13 9 b0 b1 b2 b3 (byte_at 3 k) (byte_at 2 k) (byte_at 1 k) (byte_at 0 k) h0 h1 h2 h3 k0 k1 k2 k3)
    (mixed-xor 14 11 13 9 b1 b2 b3 b0 (byte_at 2 k) (byte_at 1 k) (byte_at 0 k) (byte_at 3 k) h1 h2 h3 h0 k1 k2 k3 k0)
    (mixed-xor 14 11 13 9 b2 b3 b0 b1 (byte_at 1 k) (byte_at 0 k) (byte_at 3 k) (byte_at 2 k) h2 h3 h0 h1 k2 k3 k0 k1)
    (mixed-xor 14 11 13 9 b3 b0 b1 b2 (byte_at 0 k) (byte_at 3 k) (byte_at 2 k) (byte_at 1 k) h3 h0 h1 h2 k3 k0 k1 k2))

joined : {p q r s p' q' r' s' : List ℕ} → p ≡ p' → q ≡ q' → r ≡ r' → s ≡ s' → p ++ (q ++ (r ++ s)) ≡ p' ++ (q' ++ (r' ++ s'))
joined ep eq er es = ap₂ (λ (l m : List ℕ). l ++ m) ep (ap₂ (λ (l m : List ℕ). l ++ m) eq (ap₂ (λ (l m : List ℕ). l ++ m) er es))

-- InvMixColumns after a round key, and before the round key that it was taken of
inner_key : (ws vs : List ℕ) (rounds r : ℕ) (f : ℕ → ℕ → ℕ) → IsInvScheduleOf rounds ws vs → 1 ≤ r → r < rounds → ((i c : ℕ) → f i c < 256)
    → add_round_key (word_bytes vs) (inv_mix_columns (state_of f)) r ≡ inv_mix_columns (add_round_key (word_bytes ws) (state_of f) r)
inner_key ws vs rounds r f h low high all =
    let column = λ (c : ℕ) (k : c < 4). keyed_column ws vs (c + 4 * r) (f 0 c) (f 1 c) (f 2 c) (f 3 c) (all 0 c) (all 1 c) (all 2 c) (all 3 c) (h.inner (c + 4 * r) (omega arith) (omega arith)) in
    joined (column 0 (omega arith)) (column 1 (omega arith)) (column 2 (omega arith)) (column 3 (omega arith))

-- a round key that stayed
same_column : (ws vs : List ℕ) (m b0 b1 b2 b3 : ℕ) → slice_index vs m ≡ slice_index ws m
    → let k = slice_index (word_bytes ws) in let v = slice_index (word_bytes vs) in
    bit_xor b0 (v (0 + 4 * m)) ∷ bit_xor b1 (v (1 + 4 * m)) ∷ bit_xor b2 (v (2 + 4 * m)) ∷ bit_xor b3 (v (3 + 4 * m)) ∷ []
    ≡ bit_xor b0 (k (0 + 4 * m)) ∷ bit_xor b1 (k (1 + 4 * m)) ∷ bit_xor b2 (k (2 + 4 * m)) ∷ bit_xor b3 (k (3 + 4 * m)) ∷ []
same_column ws vs m b0 b1 b2 b3 e = rw (row_0 vs m, row_1 vs m, row_2 vs m, row_3 vs m, e, row_0 ws m, row_1 ws m, row_2 ws m, row_3 ws m) refl

pub outer_key : (ws vs : List ℕ) (rounds r : ℕ) (s : List ℕ) → IsInvScheduleOf rounds ws vs → (r ≡ 0) ⊎ (rounds ≤ r) → add_round_key (word_bytes vs) s r ≡ add_round_key (word_bytes ws) s r
outer_key ws vs rounds r s h end =
    let place : (c : ℕ) → c < 4 → (c + 4 * r < 4) ⊎ (4 * rounds ≤ c + 4 * r) = λ c k. elim end [ inl e ↦ inl (omega arith) | inr g ↦ inr (omega arith) ] in
    let column = λ (c : ℕ) (k : c < 4). same_column ws vs (c + 4 * r) (entry s 0 c) (entry s 1 c) (entry s 2 c) (entry s 3 c) (h.outer (c + 4 * r) (place c k)) in
    joined (column 0 (omega arith)) (column 1 (omega arith)) (column 2 (omega arith)) (column 3 (omega arith))

pub eq_inv_next : (ws vs s t : List ℕ) (rounds n : ℕ) → IsInvScheduleOf rounds ws vs → 1 ≤ n → n < rounds → t ≡ inv_rounds (word_bytes ws) rounds s (n - 1)
    → add_round_key (word_bytes vs) (inv_mix_columns (inv_sub_bytes (inv_shift_rows t))) (rounds - n) ≡ inv_rounds (word_bytes ws) rounds s (n + 1 - 1)
eq_inv_next ws vs s t rounds n h low high e =
    inner_key ws vs rounds (rounds - n) (λ r c. inv_sbox (entry (inv_shift_rows t) r c)) h (omega arith) (omega arith) (λ r c. inv_sbox-byte (entry (inv_shift_rows t) r c))
    ∙ inv_rounds_next (word_bytes ws) s t rounds n low e

-- InvSubBytes takes back the S-box
pub unboxed : (column boxed : ℕ) → word_bytes (boxed ∷ []) ≡ sbox (byte_at 3 column) ∷ sbox (byte_at 2 column) ∷ sbox (byte_at 1 column) ∷ sbox (byte_at 0 column) ∷ []
    → mixed_column 14 11 13 9 (inv_sbox (byte_at 3 boxed)) (inv_sbox (byte_at 2 boxed)) (inv_sbox (byte_at 1 boxed)) (inv_sbox (byte_at 0 boxed)) ≡ inv_mixed_word (word_bytes (column ∷ []))
unboxed column boxed e =
    let at = λ (i : ℕ). ap (λ (l : List ℕ). slice_index l i) e in
    rw (
      ap inv_sbox (at 0) ∙ inv_sbox_of_sbox (byte_at 3 column) (omega arith),
      ap inv_sbox (at 1) ∙ inv_sbox_of_sbox (byte_at 2 column) (omega arith),
      ap inv_sbox (at 2) ∙ inv_sbox_of_sbox (byte_at 1 column) (omega arith),
      ap inv_sbox (at 3) ∙ inv_sbox_of_sbox (byte_at 0 column) (omega arith),
    ) refl
