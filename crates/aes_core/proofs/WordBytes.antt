-- The bytes of words: sums of words, words among others, and a block as four of them.
use Rattle.aes_core.proofs.Common.{List, [], add_round_key, ap, ap₂, arith, bit_xor, byte_at, word_bytes, length, number_block, refl, slice_index, suc, sym, take, word_at, xor_words, zero, ℕ, ◌%◌, ◌*◌, ◌++◌, ◌+◌, ◌/◌, ◌<◌, ◌^◌, ◌∙◌, ◌∷◌, ◌≡◌}
use Rattle.cipher_blocks.proofs.BlockNumbers.{block_of_xor}

-- ---- sums

pub byte_of_xor-0 : (a b : ℕ) → byte_at 0 (bit_xor a b) ≡ bit_xor (byte_at 0 a) (byte_at 0 b)
unfolding number_block
byte_of_xor-0 a b = ap (λ (l : List ℕ). slice_index l 15) (block_of_xor a b)

pub byte_of_xor-1 : (a b : ℕ) → byte_at 1 (bit_xor a b) ≡ bit_xor (byte_at 1 a) (byte_at 1 b)
unfolding number_block
byte_of_xor-1 a b = ap (λ (l : List ℕ). slice_index l 14) (block_of_xor a b)

pub byte_of_xor-2 : (a b : ℕ) → byte_at 2 (bit_xor a b) ≡ bit_xor (byte_at 2 a) (byte_at 2 b)
unfolding number_block
byte_of_xor-2 a b = ap (λ (l : List ℕ). slice_index l 13) (block_of_xor a b)

pub byte_of_xor-3 : (a b : ℕ) → byte_at 3 (bit_xor a b) ≡ bit_xor (byte_at 3 a) (byte_at 3 b)
unfolding number_block
byte_of_xor-3 a b = ap (λ (l : List ℕ). slice_index l 12) (block_of_xor a b)

pub bytes_of_xor : (a b : ℕ) → word_bytes (bit_xor a b ∷ []) ≡ xor_words (word_bytes (a ∷ [])) (word_bytes (b ∷ []))
bytes_of_xor a b = rw (byte_of_xor-3 a b, byte_of_xor-2 a b, byte_of_xor-1 a b, byte_of_xor-0 a b) refl

-- ---- words among others

pub bytes_of-append : (vs ws : List ℕ) → word_bytes (vs ++ ws) ≡ word_bytes vs ++ word_bytes ws
bytes_of-append [] ws = refl
bytes_of-append (v ∷ vs) ws = ap (λ (l : List ℕ). byte_at 3 v ∷ byte_at 2 v ∷ byte_at 1 v ∷ byte_at 0 v ∷ l) (bytes_of-append vs ws)

four_times : (n : ℕ) → 4 * suc n ≡ suc (suc (suc (suc (4 * n))))
four_times n = omega arith

four_on : (i m : ℕ) → i + 4 * suc m ≡ suc (suc (suc (suc (i + 4 * m))))
four_on i m = omega arith

pub bytes_of-take : (n : ℕ) (ws : List ℕ) → word_bytes (take n ws) ≡ take (4 * n) (word_bytes ws)
bytes_of-take zero ws = refl
bytes_of-take (suc n) [] = rw (four_times n) refl
bytes_of-take (suc n) (w ∷ ws) =
    rw (four_times n) (ap (λ (l : List ℕ). byte_at 3 w ∷ byte_at 2 w ∷ byte_at 1 w ∷ byte_at 0 w ∷ l) (bytes_of-take n ws))

-- row i of word m
pub row_0 : (ws : List ℕ) (m : ℕ) → slice_index (word_bytes ws) (0 + 4 * m) ≡ byte_at 3 (slice_index ws m)
row_0 [] m = refl
row_0 (w ∷ ws) zero = refl
row_0 (w ∷ ws) (suc m) = rw (four_on 0 m) (row_0 ws m)

pub row_1 : (ws : List ℕ) (m : ℕ) → slice_index (word_bytes ws) (1 + 4 * m) ≡ byte_at 2 (slice_index ws m)
row_1 [] m = refl
row_1 (w ∷ ws) zero = refl
row_1 (w ∷ ws) (suc m) = rw (four_on 1 m) (row_1 ws m)

pub row_2 : (ws : List ℕ) (m : ℕ) → slice_index (word_bytes ws) (2 + 4 * m) ≡ byte_at 1 (slice_index ws m)
row_2 [] m = refl
row_2 (w ∷ ws) zero = refl
row_2 (w ∷ ws) (suc m) = rw (four_on 2 m) (row_2 ws m)

pub row_3 : (ws : List ℕ) (m : ℕ) → slice_index (word_bytes ws) (3 + 4 * m) ≡ byte_at 0 (slice_index ws m)
row_3 [] m = refl
row_3 (w ∷ ws) zero = refl
row_3 (w ∷ ws) (suc m) = rw (four_on 3 m) (row_3 ws m)

pub word_at_is : (ws : List ℕ) (m : ℕ) → word_at (word_bytes ws) m ≡ word_bytes (slice_index ws m ∷ [])
word_at_is ws m =
    let at : (i j : ℕ) → i ≡ j → slice_index (word_bytes ws) i ≡ slice_index (word_bytes ws) j = λ i j e. ap (slice_index (word_bytes ws)) e in
    rw (
      at (4 * m) (0 + 4 * m) (omega arith) ∙ row_0 ws m,
      at (4 * m + 1) (1 + 4 * m) (omega arith) ∙ row_1 ws m,
      at (4 * m + 2) (2 + 4 * m) (omega arith) ∙ row_2 ws m,
      at (4 * m + 3) (3 + 4 * m) (omega arith) ∙ row_3 ws m,
    ) refl

-- ---- four words

pub four_words : (a b c d : ℕ) (p q r s : List ℕ) → word_bytes (a ∷ []) ≡ p → word_bytes (b ∷ []) ≡ q → word_bytes (c ∷ []) ≡ r → word_bytes (d ∷ []) ≡ s
    → word_bytes (a ∷ b ∷ c ∷ d ∷ []) ≡ p ++ (q ++ (r ++ s))
four_words a b c d p q r s ep eq er es = ap₂ (λ (l m : List ℕ). l ++ m) ep (ap₂ (λ (l m : List ℕ). l ++ m) eq (ap₂ (λ (l m : List ℕ). l ++ m) er es))

-- of the halves of a block
pub block_words : (n : ℕ) → word_bytes (n / 2 ^ 64 / 2 ^ 32 ∷ n / 2 ^ 64 % 2 ^ 32 ∷ n % 2 ^ 64 / 2 ^ 32 ∷ n % 2 ^ 64 % 2 ^ 32 ∷ []) ≡ number_block n
unfolding number_block
block_words n = bytes_16 (omega arith) (omega arith) (omega arith) (omega arith) (omega arith) (omega arith) (omega arith) (omega arith) (omega arith) (omega arith) (omega arith) (omega arith) (omega arith) (omega arith) (omega arith) (omega arith)
  where
    bytes_16 : {a b c d e f g h i j k l m n o p a' b' c' d' e' f' g' h' i' j' k' l' m' n' o' p' : ℕ}
        → a ≡ a' → b ≡ b' → c ≡ c' → d ≡ d' → e ≡ e' → f ≡ f' → g ≡ g' → h ≡ h' → i ≡ i' → j ≡ j' → k ≡ k' → l ≡ l' → m ≡ m' → n ≡ n' → o ≡ o' → p ≡ p'
        → a ∷ b ∷ c ∷ d ∷ e ∷ f ∷ g ∷ h ∷ i ∷ j ∷ k ∷ l ∷ m ∷ n ∷ o ∷ p ∷ [] ≡ a' ∷ b' ∷ c' ∷ d' ∷ e' ∷ f' ∷ g' ∷ h' ∷ i' ∷ j' ∷ k' ∷ l' ∷ m' ∷ n' ∷ o' ∷ p' ∷ []
    bytes_16 ea eb ec ed ee ef eg eh ei ej ek el em en eo ep = rw (ea, eb, ec, ed, ee, ef, eg, eh, ei, ej, ek, el, em, en, eo, ep) refl

-- four words and the block of them
pub block_of_words : (s : List ℕ) (n : ℕ) → length s ≡ 4 → slice_index s 1 < 2 ^ 32 → slice_index s 2 < 2 ^ 32 → slice_index s 3 < 2 ^ 32
    → n ≡ (slice_index s 0 * 2 ^ 32 + slice_index s 1) * 2 ^ 64 + (slice_index s 2 * 2 ^ 32 + slice_index s 3) → number_block n ≡ word_bytes s
block_of_words (a ∷ b ∷ c ∷ d ∷ []) n long hb hc hd e =
    let e0 : n / 2 ^ 64 / 2 ^ 32 ≡ a = omega arith in
    let e1 : n / 2 ^ 64 % 2 ^ 32 ≡ b = omega arith in
    let e2 : n % 2 ^ 64 / 2 ^ 32 ≡ c = omega arith in
    let e3 : n % 2 ^ 64 % 2 ^ 32 ≡ d = omega arith in
    sym (block_words n) ∙ rw (e0, e1, e2, e3) refl
block_of_words s n long hb hc hd e = absurd (omega arith)

-- ---- a round key added

-- column c of a state, and word m, which is column c of round key r
column_keyed : (ws s : List ℕ) (r c m : ℕ) → m ≡ c + 4 * r → word_bytes (bit_xor (slice_index s c) (slice_index ws m) ∷ [])
    ≡ bit_xor (slice_index (word_bytes s) (0 + 4 * c)) (slice_index (word_bytes ws) (0 + 4 * (c + 4 * r)))
    ∷ bit_xor (slice_index (word_bytes s) (1 + 4 * c)) (slice_index (word_bytes ws) (1 + 4 * (c + 4 * r)))
    ∷ bit_xor (slice_index (word_bytes s) (2 + 4 * c)) (slice_index (word_bytes ws) (2 + 4 * (c + 4 * r)))
    ∷ bit_xor (slice_index (word_bytes s) (3 + 4 * c)) (slice_index (word_bytes ws) (3 + 4 * (c + 4 * r))) ∷ []
column_keyed ws s r c m e =
    let n : ℕ = c + 4 * r in
    bytes_of_xor (slice_index s c) (slice_index ws m) ∙ rw (e, row_0 s c, row_1 s c, row_2 s c, row_3 s c, row_0 ws n, row_1 ws n, row_2 ws n, row_3 ws n) refl

pub key_added : (ws s : List ℕ) (r : ℕ)
    → word_bytes (bit_xor (slice_index s 0) (slice_index ws (4 * r)) ∷ bit_xor (slice_index s 1) (slice_index ws (4 * r + 1)) ∷ bit_xor (slice_index s 2) (slice_index ws (4 * r + 2)) ∷ bit_xor (slice_index s 3) (slice_index ws (4 * r + 3)) ∷ [])
    ≡ add_round_key (word_bytes ws) (word_bytes s) r
key_added ws s r =
    four_words _ _ _ _ _ _ _ _
    (column_keyed ws s r 0 (4 * r) (omega arith))
    (column_keyed ws s r 1 (4 * r + 1) (omega arith))
    (column_keyed ws s r 2 (4 * r + 2) (omega arith))
    (column_keyed ws s r 3 (4 * r + 3) (omega arith))
