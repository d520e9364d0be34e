-- Laws of the field GF(2^8): what is tried at every byte, and products of sums.
use Rattle.std.proofs.Common.{Bool, ap, ap₂, arith, bit_xor, cond, eqb, false, inl, inr, nat_lt, refl, suc, sym, true, zero, ℕ, ◌%◌, ◌&&◌, ◌*◌, ◌+◌, ◌/◌, ◌<◌, ◌^◌, ◌∙◌, ◌≡◌, ◌⊎◌}
use Rattle.crypto_specs.proofs.Common.{and_parts, cases_eq, cases_lt, eqb-true, gf_mul, le-ltb, lt-ltb, ltb-true, sum_of_shifts, xor_assoc, xor_block, xor_comm, xor_lt, xor_mod, xor_self, xor_shr, xor_zero_r, xtime}

-- the test holds at each number below n
unfoldable pub all_below : ℕ → (ℕ → Bool) → Bool
all_below zero test = true
all_below (suc n) test = test n && all_below n test

pub below_all : (n : ℕ) (test : ℕ → Bool) → all_below n test ≡ true → (i : ℕ) → i < n → test i ≡ true
unfolding all_below
below_all zero test h i k = absurd (omega arith)
below_all (suc n) test h i k = elim (cases_eq i n) [
  | inl e ↦ rw e ((and_parts (test n) (all_below n test) h).0)
  | inr e ↦ below_all n test ((and_parts (test n) (all_below n test) h).1) i (omega arith)
]

-- two functions that agree on each number below n
pub same_below : (n : ℕ) (f g : ℕ → ℕ) → all_below n (λ b. eqb (f b) (g b)) ≡ true → (b : ℕ) → b < n → f b ≡ g b
same_below n f g t b h = eqb-true (f b) (g b) (below_all n (λ b. eqb (f b) (g b)) t b h)

-- ---- sums of four, and of two doubled

pub xor_four : (a b c d : ℕ) → bit_xor (bit_xor a b) (bit_xor c d) ≡ bit_xor (bit_xor a c) (bit_xor b d)
xor_four a b c d =
    xor_assoc a b (bit_xor c d) ∙ ap (bit_xor a) (sym (xor_assoc b c d) ∙ ap (λ (n : ℕ). bit_xor n d) (xor_comm b c) ∙ xor_assoc c b d)
    ∙ sym (xor_assoc a c (bit_xor b d))

pub xor_twice : (a b : ℕ) → bit_xor (bit_xor a b) b ≡ a
xor_twice a b = xor_assoc a b b ∙ ap (bit_xor a) (xor_self b) ∙ xor_zero_r a

double-xor : (a b : ℕ) → 2 * bit_xor a b ≡ bit_xor (2 * a) (2 * b)
double-xor a b =
    let left : 2 * a ≡ a * 2 ^ 1 + 0 = omega arith in
    let right : 2 * b ≡ b * 2 ^ 1 + 0 = omega arith in
    let whole : 2 * bit_xor a b ≡ bit_xor a b * 2 ^ 1 + 0 = omega arith in
    rw (left, right, whole) (sym (xor_block 1 a b 0 0 (omega arith) (omega arith)))

-- ---- the product by x

parity : (a : ℕ) → (a % 2 ≡ 0) ⊎ (a % 2 ≡ 1)
parity a = elim (cases_eq (a % 2) 1) [ inl e ↦ inr e | inr n ↦ inl (omega arith) ]

-- what an odd sum chooses is the sum of what its parts choose
pub chosen-xor : (a b v : ℕ) → cond (eqb (bit_xor a b % 2) 1) v 0 ≡ bit_xor (cond (eqb (a % 2) 1) v 0) (cond (eqb (b % 2) 1) v 0)
chosen-xor a b v =
    let parts : bit_xor a b % 2 ≡ bit_xor (a % 2) (b % 2) = xor_mod a b 1 in
    elim (parity a) [
      | inl ea ↦ elim (parity b) [ inl eb ↦ rw (parts, ea, eb) refl | inr eb ↦ rw (parts, ea, eb) refl ]
      | inr ea ↦ elim (parity b) [ inl eb ↦ rw (parts, ea, eb) (sym (xor_zero_r v)) | inr eb ↦ rw (parts, ea, eb) (sym (xor_self v)) ]
    ]

correction : ℕ → ℕ
correction b = cond (eqb (b / 128 % 2) 1) 0x11b 0

corrected : (b : ℕ) → b < 256 → xtime b ≡ bit_xor (2 * b) (correction b)
unfolding correction
corrected b h = elim (cases_lt b 128) [
  | inl l ↦ let none : b / 128 % 2 ≡ 0 = omega arith in rw (lt-ltb b 128 l, none) (sym (xor_zero_r (2 * b)))
  | inr g ↦ let one : b / 128 % 2 ≡ 1 = omega arith in rw (le-ltb b 128 g, one) refl
]

correction-xor : (a b : ℕ) → correction (bit_xor a b) ≡ bit_xor (correction a) (correction b)
unfolding correction
correction-xor a b = ap (λ (m : ℕ). cond (eqb (m % 2) 1) 0x11b 0) (xor_shr a b 7) ∙ chosen-xor (a / 128) (b / 128) 0x11b

pub xtime-xor : (a b : ℕ) → a < 256 → b < 256 → xtime (bit_xor a b) ≡ bit_xor (xtime a) (xtime b)
xtime-xor a b ha hb =
    corrected (bit_xor a b) (xor_lt 8 a b ha hb) ∙ ap₂ bit_xor (double-xor a b) (correction-xor a b)
    ∙ xor_four (2 * a) (2 * b) (correction a) (correction b) ∙ sym (ap₂ bit_xor (corrected a ha) (corrected b hb))

xtime-test : all_below 256 (λ b. nat_lt (xtime b) 256) ≡ true
unfolding all_below
xtime-test = refl

pub xtime-byte : (b : ℕ) → b < 256 → xtime b < 256
xtime-byte b h = ltb-true (xtime b) 256 (below_all 256 (λ b. nat_lt (xtime b) 256) xtime-test b h)

-- ---- products

pub cond-xor : (t : Bool) (a b : ℕ) → cond t (bit_xor a b) 0 ≡ bit_xor (cond t a 0) (cond t b 0)
cond-xor true a b = refl
cond-xor false a b = refl

cond-byte : (t : Bool) (b : ℕ) → b < 256 → cond t b 0 < 256
cond-byte true b h = h
cond-byte false b h = omega arith

sum-xor : (n c a b : ℕ) → a < 256 → b < 256 → sum_of_shifts n c (bit_xor a b) ≡ bit_xor (sum_of_shifts n c a) (sum_of_shifts n c b)
unfolding sum_of_shifts
sum-xor zero c a b ha hb = refl
sum-xor (suc n) c a b ha hb =
    let t : Bool = eqb (c % 2) 1 in
    ap₂ bit_xor (cond-xor t a b) (ap (sum_of_shifts n (c / 2)) (xtime-xor a b ha hb) ∙ sum-xor n (c / 2) (xtime a) (xtime b) (xtime-byte a ha) (xtime-byte b hb))
    ∙ xor_four (cond t a 0) (cond t b 0) (sum_of_shifts n (c / 2) (xtime a)) (sum_of_shifts n (c / 2) (xtime b))

pub gf_mul-xor : (c a b : ℕ) → a < 256 → b < 256 → gf_mul c (bit_xor a b) ≡ bit_xor (gf_mul c a) (gf_mul c b)
gf_mul-xor c a b ha hb = sum-xor 8 c a b ha hb

sum-byte : (n c b : ℕ) → b < 256 → sum_of_shifts n c b < 256
unfolding sum_of_shifts
sum-byte zero c b h = omega arith
sum-byte (suc n) c b h =
    xor_lt 8 (cond (eqb (c % 2) 1) b 0) (sum_of_shifts n (c / 2) (xtime b)) (cond-byte (eqb (c % 2) 1) b h) (sum-byte n (c / 2) (xtime b) (xtime-byte b h))

pub gf_mul-byte : (c b : ℕ) → b < 256 → gf_mul c b < 256
gf_mul-byte c b h = sum-byte 8 c b h
