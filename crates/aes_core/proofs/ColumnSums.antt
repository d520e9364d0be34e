-- Four table entries sum up to a column.
use Rattle.aes_core.proofs.Common.{List, [], ap, ap₂, arith, be_bytes_4, bit_xor, byte_at, word_bytes, gf_mul, gf_mul-byte, mixed_column, products, refl, slice_index, suc, sym, xor_assoc, xor_comm, zero, ℕ, ◌%◌, ◌*◌, ◌++◌, ◌+◌, ◌<◌, ◌∙◌, ◌∷◌, ◌≡◌}
use Rattle.aes_core.proofs.WordBytes.{byte_of_xor-0, byte_of_xor-1, byte_of_xor-2, byte_of_xor-3, row_0, row_1, row_2, row_3, four_words}

-- the bytes of a word of products
products_bytes : (a0 a1 a2 a3 b : ℕ) → b < 256 → word_bytes (products a0 a1 a2 a3 b ∷ []) ≡ gf_mul a0 b ∷ gf_mul a1 b ∷ gf_mul a2 b ∷ gf_mul a3 b ∷ []
products_bytes a0 a1 a2 a3 b h = be_bytes_4 (gf_mul a0 b ∷ gf_mul a1 b ∷ gf_mul a2 b ∷ gf_mul a3 b ∷ []) (products a0 a1 a2 a3 b) refl all refl
  where
    all : (i : ℕ) → slice_index (gf_mul a0 b ∷ gf_mul a1 b ∷ gf_mul a2 b ∷ gf_mul a3 b ∷ []) i < 256
    all zero = gf_mul-byte a0 b h
    all (suc zero) = gf_mul-byte a1 b h
    all (suc (suc zero)) = gf_mul-byte a2 b h
    all (suc (suc (suc zero))) = gf_mul-byte a3 b h
    all (suc (suc (suc (suc i)))) = omega arith

-- a sum of four, turned
turned : (a b c d : ℕ) → bit_xor (bit_xor (bit_xor a b) c) d ≡ bit_xor (bit_xor (bit_xor b c) d) a
turned a b c d = ap (λ (n : ℕ). bit_xor n d) (xor_assoc a b c) ∙ xor_assoc a (bit_xor b c) d ∙ xor_comm a (bit_xor (bit_xor b c) d)

pub list_of : {a b c d e f g h : ℕ} → a ≡ e → b ≡ f → c ≡ g → d ≡ h → a ∷ b ∷ c ∷ d ∷ [] ≡ e ∷ f ∷ g ∷ h ∷ []
list_of ea eb ec ed = rw (ea, eb, ec, ed) refl

sum_bytes : (t u v w : ℕ) → word_bytes (bit_xor (bit_xor (bit_xor t u) v) w ∷ [])
    ≡ bit_xor (bit_xor (bit_xor (byte_at 3 t) (byte_at 3 u)) (byte_at 3 v)) (byte_at 3 w)
    ∷ bit_xor (bit_xor (bit_xor (byte_at 2 t) (byte_at 2 u)) (byte_at 2 v)) (byte_at 2 w)
    ∷ bit_xor (bit_xor (bit_xor (byte_at 1 t) (byte_at 1 u)) (byte_at 1 v)) (byte_at 1 w)
    ∷ bit_xor (bit_xor (bit_xor (byte_at 0 t) (byte_at 0 u)) (byte_at 0 v)) (byte_at 0 w) ∷ []
sum_bytes t u v w =
    let three : (f : ℕ → ℕ) → ((a b : ℕ) → f (bit_xor a b) ≡ bit_xor (f a) (f b)) → f (bit_xor (bit_xor (bit_xor t u) v) w) ≡ bit_xor (bit_xor (bit_xor (f t) (f u)) (f v)) (f w) =
    λ f h. h (bit_xor (bit_xor t u) v) w ∙ ap (λ (n : ℕ). bit_xor n (f w)) (h (bit_xor t u) v ∙ ap (λ (n : ℕ). bit_xor n (f v)) (h t u)) in
    list_of (three (byte_at 3) byte_of_xor-3) (three (byte_at 2) byte_of_xor-2) (three (byte_at 1) byte_of_xor-1) (three (byte_at 0) byte_of_xor-0)

pub column_of_entries : (a0 a1 a2 a3 p q r s t u v w : ℕ) → p < 256 → q < 256 → r < 256 → s < 256
    → t ≡ products a0 a3 a2 a1 p → u ≡ products a1 a0 a3 a2 q → v ≡ products a2 a1 a0 a3 r → w ≡ products a3 a2 a1 a0 s
    → word_bytes (bit_xor (bit_xor (bit_xor t u) v) w ∷ []) ≡ mixed_column a0 a1 a2 a3 p q r s
column_of_entries a0 a1 a2 a3 p q r s t u v w hp hq hr hs et eu ev ew =
    let at : (n : ℕ) (l : List ℕ) → word_bytes (n ∷ []) ≡ l → (i : ℕ) → slice_index (word_bytes (n ∷ [])) i ≡ slice_index l i = λ n l e i. ap (λ (m : List ℕ). slice_index m i) e in
    let word : (n m : ℕ) → n ≡ m → word_bytes (n ∷ []) ≡ word_bytes (m ∷ []) = λ n m e. ap (λ (k : ℕ). word_bytes (k ∷ [])) e in
    let bt = at t _ (word t _ et ∙ products_bytes a0 a3 a2 a1 p hp) in
    let bu = at u _ (word u _ eu ∙ products_bytes a1 a0 a3 a2 q hq) in
    let bv = at v _ (word v _ ev ∙ products_bytes a2 a1 a0 a3 r hr) in
    let bw = at w _ (word w _ ew ∙ products_bytes a3 a2 a1 a0 s hs) in
    let sum : (x y z o x' y' z' o' : ℕ) → x ≡ x' → y ≡ y' → z ≡ z' → o ≡ o' → bit_xor (bit_xor (bit_xor x y) z) o ≡ bit_xor (bit_xor (bit_xor x' y') z') o' =
    λ x y z o x' y' z' o' ex ey ez eo. ap₂ bit_xor (ap₂ bit_xor (ap₂ bit_xor ex ey) ez) eo in
    let m : ℕ → ℕ → ℕ = gf_mul in
    sum_bytes t u v w
    ∙ list_of
    (sum _ _ _ _ _ _ _ _ (bt 0) (bu 0) (bv 0) (bw 0))
    (sum _ _ _ _ _ _ _ _ (bt 1) (bu 1) (bv 1) (bw 1) ∙ turned (m a3 p) (m a0 q) (m a1 r) (m a2 s))
    (sum _ _ _ _ _ _ _ _ (bt 2) (bu 2) (bv 2) (bw 2) ∙ turned (m a2 p) (m a3 q) (m a0 r) (m a1 s) ∙ turned (m a3 q) (m a0 r) (m a1 s) (m a2 p))
    (sum _ _ _ _ _ _ _ _ (bt 3) (bu 3) (bv 3) (bw 3) ∙ sym (turned (m a0 s) (m a1 p) (m a2 q) (m a3 r)))

-- what f makes of a column whose row r stands in column c + d * r
abbrev pub column_of_words : (ℕ → ℕ → ℕ → ℕ → List ℕ) → ℕ → List ℕ → ℕ → List ℕ
column_of_words f d s c =
    f (byte_at 3 (slice_index s c)) (byte_at 2 (slice_index s ((c + d) % 4))) (byte_at 1 (slice_index s ((c + 2 * d) % 4))) (byte_at 0 (slice_index s ((c + 3 * d) % 4)))

-- and of the bytes of a state
abbrev pub column_of_bytes : (ℕ → ℕ → ℕ → ℕ → List ℕ) → ℕ → List ℕ → ℕ → List ℕ
column_of_bytes f d t c =
    f (slice_index t (0 + 4 * c)) (slice_index t (1 + 4 * ((c + d) % 4))) (slice_index t (2 + 4 * ((c + 2 * d) % 4))) (slice_index t (3 + 4 * ((c + 3 * d) % 4)))

column_same : (f : ℕ → ℕ → ℕ → ℕ → List ℕ) (d : ℕ) (s : List ℕ) (c : ℕ) → column_of_words f d s c ≡ column_of_bytes f d (word_bytes s) c
column_same f d s c = rw (row_0 s c, row_1 s ((c + d) % 4), row_2 s ((c + 2 * d) % 4), row_3 s ((c + 3 * d) % 4)) refl

-- the columns of a round: the rows are turned by 1, or by 3 in an inverse round
pub four_columns : (f : ℕ → ℕ → ℕ → ℕ → List ℕ) (d : ℕ) (s : List ℕ) (x y z w : ℕ)
    → word_bytes (x ∷ []) ≡ column_of_words f d s 0 → word_bytes (y ∷ []) ≡ column_of_words f d s 1
    → word_bytes (z ∷ []) ≡ column_of_words f d s 2 → word_bytes (w ∷ []) ≡ column_of_words f d s 3
    → let column = column_of_bytes f d (word_bytes s) in word_bytes (x ∷ y ∷ z ∷ w ∷ []) ≡ column 0 ++ (column 1 ++ (column 2 ++ column 3))
four_columns f d s x y z w ex ey ez ew =
    four_words x y z w _ _ _ _ (ex ∙ column_same f d s 0) (ey ∙ column_same f d s 1) (ez ∙ column_same f d s 2) (ew ∙ column_same f d s 3)
