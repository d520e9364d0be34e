-- The matrices of MixColumns and InvMixColumns undo each other on a column.
use Rattle.std.proofs.Common.{ap, ap₂, bit_xor, refl, sym, ℕ, ◌<◌, ◌∙◌, ◌≡◌}
use Rattle.crypto_specs.proofs.{Common.gf_mul, Common.mixed, Common.sum_of_shifts, Common.xor_assoc, Common.xor_comm, Common.xor_lt, Common.xor_zero_r, FieldLaws.all_below, FieldLaws.same_below, FieldLaws.xor_four, FieldLaws.gf_mul-xor, FieldLaws.gf_mul-byte}

abbrev pub sum_four : ℕ → ℕ → ℕ → ℕ → ℕ
sum_four a b c d = bit_xor (bit_xor (bit_xor a b) c) d

sums_added : (a b c d x y z w : ℕ) → bit_xor (sum_four a b c d) (sum_four x y z w) ≡ sum_four (bit_xor a x) (bit_xor b y) (bit_xor c z) (bit_xor d w)
sums_added a b c d x y z w =
    xor_four (bit_xor (bit_xor a b) c) d (bit_xor (bit_xor x y) z) w
    ∙ ap (λ (n : ℕ). bit_xor n (bit_xor d w)) (xor_four (bit_xor a b) c (bit_xor x y) z
    ∙ ap (λ (n : ℕ). bit_xor n (bit_xor c z)) (xor_four a b x y))

-- rows added are columns added
transposed : (a b c d x y z w i j k l p q r s : ℕ)
    → sum_four (sum_four a b c d) (sum_four x y z w) (sum_four i j k l) (sum_four p q r s)
    ≡ sum_four (sum_four a x i p) (sum_four b y j q) (sum_four c z k r) (sum_four d w l s)
transposed a b c d x y z w i j k l p q r s =
    ap (λ (n : ℕ). bit_xor (bit_xor n (sum_four i j k l)) (sum_four p q r s)) (sums_added a b c d x y z w)
    ∙ ap (λ (n : ℕ). bit_xor n (sum_four p q r s)) (sums_added (bit_xor a x) (bit_xor b y) (bit_xor c z) (bit_xor d w) i j k l)
    ∙ sums_added (bit_xor (bit_xor a x) i) (bit_xor (bit_xor b y) j) (bit_xor (bit_xor c z) k) (bit_xor (bit_xor d w) l) p q r s

one_left : {a x y z b : ℕ} → a ≡ b → x ≡ 0 → y ≡ 0 → z ≡ 0 → sum_four a x y z ≡ b
one_left {b = b} e ex ey ez =
    ap₂ bit_xor (ap₂ bit_xor (ap₂ bit_xor e ex) ey) ez ∙ xor_zero_r (bit_xor (bit_xor b 0) 0) ∙ xor_zero_r (bit_xor b 0) ∙ xor_zero_r b

four_sums : {a b c d x y z w : ℕ} → a ≡ x → b ≡ y → c ≡ z → d ≡ w → sum_four a b c d ≡ sum_four x y z w
four_sums e f g h = ap₂ bit_xor (ap₂ bit_xor (ap₂ bit_xor e f) g) h

turned : (a b c d : ℕ) → sum_four a b c d ≡ sum_four d a b c
turned a b c d =
    xor_comm (bit_xor (bit_xor a b) c) d ∙ ap (bit_xor d) (xor_assoc a b c) ∙ sym (xor_assoc d a (bit_xor b c)) ∙ sym (xor_assoc (bit_xor d a) b c)

mixed_times : (c p0 p1 p2 p3 b0 b1 b2 b3 : ℕ) → b0 < 256 → b1 < 256 → b2 < 256 → b3 < 256
    → gf_mul c (mixed p0 p1 p2 p3 b0 b1 b2 b3) ≡ sum_four (gf_mul c (gf_mul p0 b0)) (gf_mul c (gf_mul p1 b1)) (gf_mul c (gf_mul p2 b2)) (gf_mul c (gf_mul p3 b3))
mixed_times c p0 p1 p2 p3 b0 b1 b2 b3 h0 h1 h2 h3 =
    let l0 : gf_mul p0 b0 < 256 = gf_mul-byte p0 b0 h0 in
    let l1 : gf_mul p1 b1 < 256 = gf_mul-byte p1 b1 h1 in
    let l2 : gf_mul p2 b2 < 256 = gf_mul-byte p2 b2 h2 in
    let l3 : gf_mul p3 b3 < 256 = gf_mul-byte p3 b3 h3 in
    let two : bit_xor (gf_mul p0 b0) (gf_mul p1 b1) < 256 = xor_lt 8 _ _ l0 l1 in
    let three : bit_xor (bit_xor (gf_mul p0 b0) (gf_mul p1 b1)) (gf_mul p2 b2) < 256 = xor_lt 8 _ _ two l2 in
    gf_mul-xor c (bit_xor (bit_xor (gf_mul p0 b0) (gf_mul p1 b1)) (gf_mul p2 b2)) (gf_mul p3 b3) three l3
    ∙ ap (λ (n : ℕ). bit_xor n (gf_mul c (gf_mul p3 b3))) (gf_mul-xor c (bit_xor (gf_mul p0 b0) (gf_mul p1 b1)) (gf_mul p2 b2) two l2
    ∙ ap (λ (n : ℕ). bit_xor n (gf_mul c (gf_mul p2 b2))) (gf_mul-xor c (gf_mul p0 b0) (gf_mul p1 b1) l0 l1))

-- the products of b with each p and then each c, added
abbrev pub composed : ℕ → ℕ → ℕ → ℕ → ℕ → ℕ → ℕ → ℕ → ℕ → ℕ
composed c0 c1 c2 c3 p0 p1 p2 p3 b =
    sum_four (gf_mul c0 (gf_mul p0 b)) (gf_mul c1 (gf_mul p1 b)) (gf_mul c2 (gf_mul p2 b)) (gf_mul c3 (gf_mul p3 b))

-- the matrices whose first rows are c and p, each further row being the one before it turned right by
-- one, are inverse: the first row of their product
module _ (c0 c1 c2 c3 p0 p1 p2 p3 : ℕ) where
  pub record IsInverse : Type 0 where
    pub first : (b : ℕ) → b < 256 → composed c0 c1 c2 c3 p0 p3 p2 p1 b ≡ b
    pub second : (b : ℕ) → b < 256 → composed c0 c1 c2 c3 p1 p0 p3 p2 b ≡ 0
    pub third : (b : ℕ) → b < 256 → composed c0 c1 c2 c3 p2 p1 p0 p3 b ≡ 0
    pub fourth : (b : ℕ) → b < 256 → composed c0 c1 c2 c3 p3 p2 p1 p0 b ≡ 0

  pub unmixed : IsInverse → (b0 b1 b2 b3 : ℕ) → b0 < 256 → b1 < 256 → b2 < 256 → b3 < 256
      → mixed c0 c1 c2 c3 (mixed p0 p1 p2 p3 b0 b1 b2 b3) (mixed p0 p1 p2 p3 b1 b2 b3 b0) (mixed p0 p1 p2 p3 b2 b3 b0 b1) (mixed p0 p1 p2 p3 b3 b0 b1 b2) ≡ b0
  unmixed inverse b0 b1 b2 b3 h0 h1 h2 h3 =
      let t = λ (c p b : ℕ). gf_mul c (gf_mul p b) in
      let row0 = mixed_times c0 p0 p1 p2 p3 b0 b1 b2 b3 h0 h1 h2 h3 in
      let row1 = mixed_times c1 p0 p1 p2 p3 b1 b2 b3 b0 h1 h2 h3 h0 ∙ turned (t c1 p0 b1) (t c1 p1 b2) (t c1 p2 b3) (t c1 p3 b0) in
      let row2 =
      mixed_times c2 p0 p1 p2 p3 b2 b3 b0 b1 h2 h3 h0 h1 ∙ turned (t c2 p0 b2) (t c2 p1 b3) (t c2 p2 b0) (t c2 p3 b1)
      ∙ turned (t c2 p3 b1) (t c2 p0 b2) (t c2 p1 b3) (t c2 p2 b0) in
      let row3 = mixed_times c3 p0 p1 p2 p3 b3 b0 b1 b2 h3 h0 h1 h2 ∙ sym (turned (t c3 p1 b0) (t c3 p2 b1) (t c3 p3 b2) (t c3 p0 b3)) in
      four_sums row0 row1 row2 row3
      ∙ transposed
      (t c0 p0 b0) (t c0 p1 b1) (t c0 p2 b2) (t c0 p3 b3)
      (t c1 p3 b0) (t c1 p0 b1) (t c1 p1 b2) (t c1 p2 b3)
      (t c2 p2 b0) (t c2 p3 b1) (t c2 p0 b2) (t c2 p1 b3)
      (t c3 p1 b0) (t c3 p2 b1) (t c3 p3 b2) (t c3 p0 b3)
      ∙ one_left (inverse.first b0 h0) (inverse.second b1 h1) (inverse.third b2 h2) (inverse.fourth b3 h3)

-- ---- the two matrices of AES, tried at every byte

pub inv_mix_of_mix : IsInverse 14 11 13 9 2 3 1 1
unfolding all_below sum_of_shifts
inv_mix_of_mix = record {
  first = same_below 256 (composed 14 11 13 9 2 1 1 3) (λ b. b) refl;
  second = same_below 256 (composed 14 11 13 9 3 2 1 1) (λ b. 0) refl;
  third = same_below 256 (composed 14 11 13 9 1 3 2 1) (λ b. 0) refl;
  fourth = same_below 256 (composed 14 11 13 9 1 1 3 2) (λ b. 0) refl;
}

pub mix_of_inv_mix : IsInverse 2 3 1 1 14 11 13 9
unfolding all_below sum_of_shifts
mix_of_inv_mix = record {
  first = same_below 256 (composed 2 3 1 1 14 9 13 11) (λ b. b) refl;
  second = same_below 256 (composed 2 3 1 1 11 14 9 13) (λ b. 0) refl;
  third = same_below 256 (composed 2 3 1 1 13 11 14 9) (λ b. 0) refl;
  fourth = same_below 256 (composed 2 3 1 1 9 13 11 14) (λ b. 0) refl;
}
