-- The tables of the rounds and of the inverse rounds, entry by entry.
use Rattle.aes_core.proofs.Common.{INV_MIXED_ROWS, INV_WORD_ROWS, ap₂, inv_mixed_word, suc, zero, ◌%◌, INV_SBOX, List, MIXED_ROWS, SBOX, [], ap, arith, bit_xor, byte_at, word_bytes, get_or, holds_values, length, mixed_column, products, refl, slice_index, sum_of_shifts, true, value_of, ℕ, ◌/◌, ◌<◌, ◌^◌, ◌∙◌, ◌∷◌, ◌≡◌}
use Rattle.aes_core.proofs.ColumnSums.{column_of_entries}

abbrev pub row : List (List ℕ) → ℕ → List ℕ
row rows r = get_or rows r []

-- table r of a box: the products of its entries and column r of the matrix whose first row is a0, a1, a2, a3
abbrev HoldsRow : List ℕ → List ℕ → ℕ → ℕ → ℕ → ℕ → Type 0
HoldsRow t box a0 a1 a2 a3 = holds_values (λ x. products a0 a1 a2 a3 (slice_index box x)) 0 t ≡ true

pub record HoldRows (rows : List (List ℕ)) (box : List ℕ) (a0 a1 a2 a3 : ℕ) : Type 0 where
  pub row_0 : HoldsRow (row rows 0) box a0 a3 a2 a1
  pub row_1 : HoldsRow (row rows 1) box a1 a0 a3 a2
  pub row_2 : HoldsRow (row rows 2) box a2 a1 a0 a3
  pub row_3 : HoldsRow (row rows 3) box a3 a2 a1 a0
  pub long_0 : length (row rows 0) ≡ 256
  pub long_1 : length (row rows 1) ≡ 256
  pub long_2 : length (row rows 2) ≡ 256
  pub long_3 : length (row rows 3) ≡ 256

pub mixed_rows : HoldRows MIXED_ROWS SBOX 2 3 1 1
unfolding sum_of_shifts
mixed_rows = record { row_0 = refl; row_1 = refl; row_2 = refl; row_3 = refl; long_0 = refl; long_1 = refl; long_2 = refl; long_3 = refl }

pub inv_mixed_rows : HoldRows INV_MIXED_ROWS INV_SBOX 14 11 13 9
unfolding sum_of_shifts
inv_mixed_rows = record { row_0 = refl; row_1 = refl; row_2 = refl; row_3 = refl; long_0 = refl; long_1 = refl; long_2 = refl; long_3 = refl }

-- every byte at its own place
abbrev bytes_from : ℕ → ℕ → List ℕ
bytes_from k zero = []
bytes_from k (suc n) = k ∷ bytes_from (suc k) n

abbrev low_byte : ℕ → ℕ
low_byte x = x % 256

own_place : holds_values low_byte 0 (bytes_from 0 256) ≡ true
own_place = refl

pub inv_word_rows : HoldRows INV_WORD_ROWS (bytes_from 0 256) 14 11 13 9
unfolding sum_of_shifts
inv_word_rows = record { row_0 = refl; row_1 = refl; row_2 = refl; row_3 = refl; long_0 = refl; long_1 = refl; long_2 = refl; long_3 = refl }

-- an entry of each table, at a byte of each word, where the box is the function f
pub column_of_tables : (rows : List (List ℕ)) (box : List ℕ) (f : ℕ → ℕ) (a0 a1 a2 a3 a b c d : ℕ) → HoldRows rows box a0 a1 a2 a3
    → ((x : ℕ) → x < 256 → slice_index box x ≡ f x) → ((x : ℕ) → f x < 256) → a < 2 ^ 32
    → word_bytes (bit_xor (bit_xor (bit_xor (slice_index (row rows 0) (a / 2 ^ 24)) (slice_index (row rows 1) (byte_at 2 b))) (slice_index (row rows 2) (byte_at 1 c))) (slice_index (row rows 3) (byte_at 0 d)) ∷ [])
    ≡ mixed_column a0 a1 a2 a3 (f (byte_at 3 a)) (f (byte_at 2 b)) (f (byte_at 1 c)) (f (byte_at 0 d))
column_of_tables rows box f a0 a1 a2 a3 a b c d h box_is all small =
    let at : (t : List ℕ) (b0 b1 b2 b3 x : ℕ) → HoldsRow t box b0 b1 b2 b3 → length t ≡ 256 → x < 256 → slice_index t x ≡ products b0 b1 b2 b3 (f x) =
    λ t b0 b1 b2 b3 x test long below. value_of (λ x. products b0 b1 b2 b3 (slice_index box x)) t x test (omega arith) ∙ ap (products b0 b1 b2 b3) (box_is x below) in
    let highest : a / 2 ^ 24 ≡ byte_at 3 a = omega arith in
    column_of_entries a0 a1 a2 a3 (f (byte_at 3 a)) (f (byte_at 2 b)) (f (byte_at 1 c)) (f (byte_at 0 d)) _ _ _ _ (all (byte_at 3 a)) (all (byte_at 2 b)) (all (byte_at 1 c)) (all (byte_at 0 d))
    (ap (slice_index (row rows 0)) highest ∙ at (row rows 0) a0 a3 a2 a1 (byte_at 3 a) h.row_0 h.long_0 (omega arith))
    (at (row rows 1) a1 a0 a3 a2 (byte_at 2 b) h.row_1 h.long_1 (omega arith))
    (at (row rows 2) a2 a1 a0 a3 (byte_at 1 c) h.row_2 h.long_2 (omega arith))
    (at (row rows 3) a3 a2 a1 a0 (byte_at 0 d) h.row_3 h.long_3 (omega arith))

-- and the same without a box
pub word_of_tables : (w : ℕ) → w < 2 ^ 32
    → word_bytes (bit_xor (bit_xor (bit_xor (slice_index (row INV_WORD_ROWS 0) (w / 2 ^ 24)) (slice_index (row INV_WORD_ROWS 1) (byte_at 2 w))) (slice_index (row INV_WORD_ROWS 2) (byte_at 1 w))) (slice_index (row INV_WORD_ROWS 3) (byte_at 0 w)) ∷ [])
    ≡ inv_mixed_word (word_bytes (w ∷ []))
word_of_tables w small =
    let b3 : low_byte (byte_at 3 w) ≡ byte_at 3 w = omega arith in
    let b2 : low_byte (byte_at 2 w) ≡ byte_at 2 w = omega arith in
    let b1 : low_byte (byte_at 1 w) ≡ byte_at 1 w = omega arith in
    let b0 : low_byte (byte_at 0 w) ≡ byte_at 0 w = omega arith in
    let column = λ (b c d e : ℕ). mixed_column 14 11 13 9 b c d e in
    column_of_tables INV_WORD_ROWS (bytes_from 0 256) low_byte 14 11 13 9 w w w w inv_word_rows
    (λ x below. value_of low_byte (bytes_from 0 256) x own_place (omega arith)) (λ x. omega arith) small
    ∙ ap₂ (λ b c. column b c (low_byte (byte_at 1 w)) (low_byte (byte_at 0 w))) b3 b2
    ∙ ap₂ (λ d e. column (byte_at 3 w) (byte_at 2 w) d e) b1 b0
