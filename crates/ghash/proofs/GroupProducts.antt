-- The product of blocks, four bits at a time.
use Rattle.ghash.proofs.Common.{Bool, List, REDUCTIONS, [], ap, ap₂, arith, bit_at, bit_xor, cond, eqb, false, map, products_of, refl, shifted, shr-shr, slice_index, suc, sum_of_multiples, sym, times_x, times_x4, true, xor_assoc, xor_comm, xor_shifted, xor_zero_r, zero, ℕ, ◌%◌, ◌*◌, ◌+◌, ◌/◌, ◌<◌, ◌^◌, ◌∙◌, ◌∷◌, ◌≡◌}
use Rattle.std.specs.List.{range_with_len}
use Rattle.std.proofs.{lemmas.List.get_or-map, lemmas.List.FromFn.get_or-range_with_len}
use Rattle.crypto_specs.proofs.{FieldLaws.xor_four, GhashLaws.times_x-xor, Tables.holds_values, Tables.value_of}
use Rattle.ghash.proofs.BitProducts.{term, times_x_even}

-- ---- a sum's product by x^4

times_x-cond : (t : Bool) (v : ℕ) → cond t (times_x v) 0 ≡ times_x (cond t v 0)
unfolding times_x
times_x-cond true v = refl
times_x-cond false v = refl

sum-times_x : (n a v : ℕ) → sum_of_multiples n a (times_x v) ≡ times_x (sum_of_multiples n a v)
unfolding sum_of_multiples times_x
sum-times_x zero a v = refl
sum-times_x (suc n) a v =
    ap₂ bit_xor (times_x-cond (eqb (bit_at a n) 1) v) (sum-times_x n a (times_x v))
    ∙ sym (times_x-xor (term a n v) (sum_of_multiples n a (times_x v)))

sum-times_x4 : (n a v : ℕ) → sum_of_multiples n a (times_x4 v) ≡ times_x4 (sum_of_multiples n a v)
sum-times_x4 n a v =
    sum-times_x n a (times_x (times_x (times_x v)))
    ∙ ap times_x (sum-times_x n a (times_x (times_x v)) ∙ ap times_x (sum-times_x n a (times_x v) ∙ ap times_x (sum-times_x n a v)))

-- ---- a group of four bits

group_bit : (b j : ℕ) → j < 4 → b % 16 / 2 ^ j % 2 ≡ b / 2 ^ j % 2
group_bit b zero h = omega arith
group_bit b (suc zero) h = omega arith
group_bit b (suc (suc zero)) h = omega arith
group_bit b (suc (suc (suc zero))) h = omega arith
group_bit b (suc (suc (suc (suc j)))) h = absurd (omega arith)

bit_of_group : (a n j : ℕ) → j < 4 → bit_at a (n + j) ≡ bit_at (a / 2 ^ n % 16) j
bit_of_group a n j h = ap (λ (m : ℕ). m % 2) (sym (shr-shr a n j)) ∙ sym (group_bit (a / 2 ^ n) j h)

-- the sum over the bits of the highest group, and that over the others
sum_four : (n a v : ℕ) → sum_of_multiples (suc (suc (suc (suc n)))) a v ≡ bit_xor (sum_of_multiples 4 (a / 2 ^ n % 16) v) (sum_of_multiples n a (times_x4 v))
unfolding sum_of_multiples
sum_four n a v =
    let g : ℕ = a / 2 ^ n % 16 in
    let b0 : bit_at a n ≡ bit_at g 0 = ap (bit_at a) (omega arith) ∙ bit_of_group a n 0 (omega arith) in
    let b1 : bit_at a (suc n) ≡ bit_at g 1 = ap (bit_at a) (omega arith) ∙ bit_of_group a n 1 (omega arith) in
    let b2 : bit_at a (suc (suc n)) ≡ bit_at g 2 = ap (bit_at a) (omega arith) ∙ bit_of_group a n 2 (omega arith) in
    let b3 : bit_at a (suc (suc (suc n))) ≡ bit_at g 3 = ap (bit_at a) (omega arith) ∙ bit_of_group a n 3 (omega arith) in
    rw (b0, b1, b2, b3) (regrouped (term g 3 v) (term g 2 (times_x v)) (term g 1 (times_x (times_x v))) (term g 0 (times_x (times_x (times_x v)))) (sum_of_multiples n a (times_x4 v)))
  where
    regrouped : (p q r s t : ℕ) → bit_xor p (bit_xor q (bit_xor r (bit_xor s t))) ≡ bit_xor (bit_xor p (bit_xor q (bit_xor r (bit_xor s 0)))) t
    regrouped p q r s t = rw xor_zero_r (sym (xor_assoc p (bit_xor q (bit_xor r s)) t ∙ ap (bit_xor p) (xor_assoc q (bit_xor r s) t ∙ ap (bit_xor q) (xor_assoc r s t))))

-- the sum over n bits becomes that over four more
next_group : (z x h n : ℕ) → z ≡ sum_of_multiples n x h → bit_xor (times_x4 z) (sum_of_multiples 4 (x / 2 ^ n % 16) h) ≡ sum_of_multiples (n + 4) x h
next_group z x h n e =
    let more : n + 4 ≡ suc (suc (suc (suc n))) = omega arith in
    xor_comm (times_x4 z) (sum_of_multiples 4 (x / 2 ^ n % 16) h)
    ∙ ap (bit_xor (sum_of_multiples 4 (x / 2 ^ n % 16) h)) (ap times_x4 e ∙ sym (sum-times_x4 n x h))
    ∙ sym (sum_four n x h) ∙ ap (λ (m : ℕ). sum_of_multiples m x h) (sym more)

-- ---- the bits from bit 64 on, beside those below

-- the sum over the bits below n and those of the bits from n on, by the product of h and x^n
sum_above : (n m x h : ℕ) → bit_xor (sum_of_multiples m (x / 2 ^ n) h) (sum_of_multiples n x (shifted m h)) ≡ sum_of_multiples (n + m) x h
unfolding sum_of_multiples shifted
sum_above n zero x h = ap (λ (k : ℕ). sum_of_multiples k x h) (omega arith)
sum_above n (suc m) x h =
    let more : n + suc m ≡ suc (n + m) = omega arith in
    let place : bit_at (x / 2 ^ n) m ≡ bit_at x (n + m) = ap (λ (k : ℕ). k % 2) (shr-shr x n m) in
    rw (more, place)
    (xor_assoc (term x (n + m) h) (sum_of_multiples m (x / 2 ^ n) (times_x h)) (sum_of_multiples n x (shifted m (times_x h)))
    ∙ ap (bit_xor (term x (n + m) h)) (sum_above n m x (times_x h)))

pub halves_summed : (x h : ℕ) → bit_xor (sum_of_multiples 64 (x / 2 ^ 64) h) (sum_of_multiples 64 x (shifted 64 h)) ≡ sum_of_multiples 128 x h
halves_summed x h = sum_above 64 64 x h

-- the product by x^n, and by x^4
times_x-shifted : (n v : ℕ) → times_x (shifted n v) ≡ shifted (suc n) v
unfolding shifted
times_x-shifted zero v = refl
times_x-shifted (suc n) v = times_x-shifted n (times_x v)

pub shifted_more : (n v : ℕ) → times_x4 (shifted n v) ≡ shifted (n + 4) v
shifted_more n v =
    let more : n + 4 ≡ suc (suc (suc (suc n))) = omega arith in
    ap (λ (m : ℕ). times_x (times_x (times_x m))) (times_x-shifted n v) ∙ ap (λ (m : ℕ). times_x (times_x m)) (times_x-shifted (suc n) v)
    ∙ ap times_x (times_x-shifted (suc (suc n)) v) ∙ times_x-shifted (suc (suc (suc n))) v ∙ ap (λ (m : ℕ). shifted m v) (sym more)

times_x4-xor : (a b : ℕ) → times_x4 (bit_xor a b) ≡ bit_xor (times_x4 a) (times_x4 b)
times_x4-xor a b = simp times_x-xor

-- two sums become those over four bits more
pub next_groups : (z a g b h n p q : ℕ) → z ≡ bit_xor (sum_of_multiples n a g) (sum_of_multiples n b h)
    → p ≡ sum_of_multiples 4 (a / 2 ^ n % 16) g → q ≡ sum_of_multiples 4 (b / 2 ^ n % 16) h
    → bit_xor (times_x4 z) (bit_xor p q) ≡ bit_xor (sum_of_multiples (n + 4) a g) (sum_of_multiples (n + 4) b h)
next_groups z a g b h n p q e ep eq =
    let one : ℕ = sum_of_multiples n a g in
    let other : ℕ = sum_of_multiples n b h in
    ap₂ bit_xor (ap times_x4 e ∙ times_x4-xor one other) (ap₂ bit_xor ep eq)
    ∙ xor_four (times_x4 one) (times_x4 other) (sum_of_multiples 4 (a / 2 ^ n % 16) g) (sum_of_multiples 4 (b / 2 ^ n % 16) h)
    ∙ ap₂ bit_xor (next_group one a g n refl) (next_group other b h n refl)

-- ---- the product by x^4, by the table of reductions

halved : (m v : ℕ) → m ≡ 2 * v → times_x m ≡ v
halved m v e = sym (times_x_even m (λ o. absurd (omega arith))) ∙ omega arith

high_part : (a : ℕ) → times_x4 (a * 16) ≡ a
high_part a =
    ap (λ (n : ℕ). times_x (times_x (times_x n))) (halved (a * 16) (a * 8) (omega arith))
    ∙ ap (λ (n : ℕ). times_x (times_x n)) (halved (a * 8) (a * 4) (omega arith))
    ∙ ap times_x (halved (a * 4) (a * 2) (omega arith)) ∙ halved (a * 2) a (omega arith)

abbrev pub at_top : ℕ → ℕ
at_top r = r * 2 ^ 64

reductions-test : holds_values times_x4 0 (map at_top REDUCTIONS) ≡ true
unfolding times_x
reductions-test = refl

low_part : (r : ℕ) → r < 16 → at_top (slice_index REDUCTIONS r) ≡ times_x4 r
low_part r h = sym (get_or-map at_top REDUCTIONS r 0 0 h) ∙ value_of times_x4 (map at_top REDUCTIONS) r reductions-test h

pub shifted_four : (z : ℕ) → bit_xor (z / 16) (at_top (slice_index REDUCTIONS (z % 16))) ≡ times_x4 z
shifted_four z =
    let high : ℕ = z / 16 in
    let low : ℕ = z % 16 in
    let parts : bit_xor (high * 2 ^ 4) low ≡ z = xor_shifted high 4 low (omega arith) ∙ omega arith in
    ap₂ bit_xor (sym (high_part high)) (low_part low (omega arith)) ∙ sym (times_x4-xor (high * 16) low) ∙ ap times_x4 parts

-- ---- the table of products

pub product_in : (t : List ℕ) (h g : ℕ) → t ≡ products_of h → g < 16 → slice_index t g ≡ sum_of_multiples 4 g h
unfolding products_of
product_in t h g e l =
    ap (λ (s : List ℕ). slice_index s g) e ∙ get_or-map (λ g. sum_of_multiples 4 g h) (range_with_len 0 16) g 0 0 l
    ∙ ap (λ (n : ℕ). sum_of_multiples 4 n h) (get_or-range_with_len 0 16 g 0 l ∙ omega arith)

pub one_in_products : (h : ℕ) → slice_index (products_of h) 8 ≡ h
unfolding products_of sum_of_multiples
one_in_products h = xor_zero_r h

pub products_of_zero : 0 ∷ 0 ∷ 0 ∷ 0 ∷ 0 ∷ 0 ∷ 0 ∷ 0 ∷ 0 ∷ 0 ∷ 0 ∷ 0 ∷ 0 ∷ 0 ∷ 0 ∷ 0 ∷ [] ≡ products_of 0
unfolding products_of sum_of_multiples times_x
products_of_zero = refl

pub far_products_of_zero : 0 ∷ 0 ∷ 0 ∷ 0 ∷ 0 ∷ 0 ∷ 0 ∷ 0 ∷ 0 ∷ 0 ∷ 0 ∷ 0 ∷ 0 ∷ 0 ∷ 0 ∷ 0 ∷ [] ≡ products_of (shifted 64 0)
unfolding shifted times_x
far_products_of_zero = products_of_zero
