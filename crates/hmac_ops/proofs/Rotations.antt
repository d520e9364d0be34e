-- Rotations of words inside one another, bit by bit.
use Rattle.hmac_ops.proofs.Common.{add-zero, ap, ap₂, arith, bit_at, bit_at-zero, bit_at_above, bit_at_cat_high, bit_at_cat_low, bit_at_or, bit_at_xor, bit_or, bit_xor, cases_lt, inl, inr, max, mod-lt, or_lt, pow_pos, same_from_bits_below, shr_le, shr_split, sym, xor_lt, ℕ, ◌%◌, ◌*◌, ◌+◌, ◌-◌, ◌/◌, ◌<◌, ◌^◌, ◌∙◌, ◌≡◌, ◌≤◌}

-- a word's bits k places down, those that fall out at the top: `rotate_right` by k, from 1 to 31
abbrev pub rotated : ℕ → ℕ → ℕ
rotated k x = bit_or (x / 2 ^ k) (x * 2 ^ (32 - k) % 2 ^ 32)

bit_of_low : (n w i : ℕ) → i < w → bit_at (n % 2 ^ w) i ≡ bit_at n i
bit_of_low n w i low = sym (bit_at_cat_low (n / 2 ^ w) w (n % 2 ^ w) i low) ∙ ap (λ (m : ℕ). bit_at m i) (shr_split n w)

bit_of_high : (n k i : ℕ) → bit_at (n / 2 ^ k) i ≡ bit_at n (i + k)
bit_of_high n k i =
    let back : i ≡ i + k - k = omega arith in
    ap (bit_at (n / 2 ^ k)) back
    ∙ sym (bit_at_cat_high (n / 2 ^ k) k (n % 2 ^ k) (i + k) (mod-lt _ (pow_pos k)) (omega arith))
    ∙ ap (λ (m : ℕ). bit_at m (i + k)) (shr_split n k)

bit_of_raised : (n j i : ℕ) → j ≤ i → bit_at (n * 2 ^ j) i ≡ bit_at n (i - j)
bit_of_raised n j i high = ap (λ (m : ℕ). bit_at m i) (sym (add-zero (n * 2 ^ j))) ∙ bit_at_cat_high n j 0 i (pow_pos j) high

no_bit_raised : (n j i : ℕ) → i < j → bit_at (n * 2 ^ j) i ≡ 0
no_bit_raised n j i low = ap (λ (m : ℕ). bit_at m i) (sym (add-zero (n * 2 ^ j))) ∙ bit_at_cat_low n j 0 i low ∙ bit_at-zero i

-- a bit of a word that is rotated is that k places up, round the top
bit_of_rotated : (x k i : ℕ) → x < 2 ^ 32 → k < 32 → i < 32 → bit_at (rotated k x) i ≡ bit_at x ((i + k) % 32)
bit_of_rotated x k i fits small low =
    let both : bit_at (rotated k x) i ≡ max (bit_at x (i + k)) (bit_at (x * 2 ^ (32 - k)) i) =
    bit_at_or (x / 2 ^ k) (x * 2 ^ (32 - k) % 2 ^ 32) i ∙ ap₂ max (bit_of_high x k i) (bit_of_low (x * 2 ^ (32 - k)) 32 i low) in
    elim (cases_lt i (32 - k)) [
      | inl below ↦
          let none = no_bit_raised x (32 - k) i below in
          let place : i + k ≡ (i + k) % 32 = omega arith in
          let one : bit_at (rotated k x) i ≡ bit_at x (i + k) = omega (arith, both, none) in
          one ∙ ap (bit_at x) place
      | inr above ↦
          let none = bit_at_above x 32 (i + k) fits (omega arith) in
          let there = bit_of_raised x (32 - k) i above in
          let place : i - (32 - k) ≡ (i + k) % 32 = omega arith in
          let one : bit_at (rotated k x) i ≡ bit_at x (i - (32 - k)) = omega (arith, both, none, there) in
          one ∙ ap (bit_at x) place
    ]

rotated-lt : (x k : ℕ) → x < 2 ^ 32 → rotated k x < 2 ^ 32
rotated-lt x k fits = or_lt 32 (x / 2 ^ k) (x * 2 ^ (32 - k) % 2 ^ 32) (omega (arith, shr_le x k)) (mod-lt _ (pow_pos 32))

-- a bit of a word xored with another and rotated
bit_of_rotated_sum : (x y k i : ℕ) → x < 2 ^ 32 → y < 2 ^ 32 → k < 32 → i < 32
    → bit_at (rotated k (bit_xor x y)) i ≡ (bit_at x ((i + k) % 32) + bit_at y ((i + k) % 32)) % 2
bit_of_rotated_sum x y k i fx fy small low =
    bit_of_rotated (bit_xor x y) k i (xor_lt 32 x y fx fy) small low ∙ bit_at_xor x y ((i + k) % 32)

-- a word and its rotation by b, both rotated by a
bit_of_two : (x a b i : ℕ) → x < 2 ^ 32 → a < 32 → b < 32 → i < 32
    → bit_at (rotated a (bit_xor x (rotated b x))) i ≡ (bit_at x ((i + a) % 32) + bit_at x ((i + (a + b)) % 32)) % 2
bit_of_two x a b i fits sa sb low =
    let place : ((i + a) % 32 + b) % 32 ≡ (i + (a + b)) % 32 = omega arith in
    bit_of_rotated_sum x (rotated b x) a i fits (rotated-lt x b fits) sa low
    ∙ ap (λ (p : ℕ). (bit_at x ((i + a) % 32) + p) % 2) (bit_of_rotated x b ((i + a) % 32) fits sb (omega arith) ∙ ap (bit_at x) place)

pub rotated-two : (x a b : ℕ) → x < 2 ^ 32 → a + b < 32 → rotated a (bit_xor x (rotated b x)) ≡ bit_xor (rotated a x) (rotated (a + b) x)
rotated-two x a b fits small =
    let inner = xor_lt 32 x (rotated b x) fits (rotated-lt x b fits) in
    same_from_bits_below 32 _ _ (rotated-lt (bit_xor x (rotated b x)) a inner) (xor_lt 32 (rotated a x) (rotated (a + b) x) (rotated-lt x a fits) (rotated-lt x (a + b) fits)) (λ i low.
    bit_of_two x a b i fits (omega arith) (omega arith) low
    ∙ sym (bit_at_xor (rotated a x) (rotated (a + b) x) i
    ∙ ap₂ (λ (p q : ℕ). (p + q) % 2) (bit_of_rotated x a i fits (omega arith) low) (bit_of_rotated x (a + b) i fits small low)))

sum_of_three : (p q r : ℕ) → (p + (q + r) % 2) % 2 ≡ ((p + q) % 2 + r) % 2
sum_of_three p q r = omega arith

pub rotated-three : (x a b c : ℕ) → x < 2 ^ 32 → a + (b + c) < 32
    → rotated a (bit_xor x (rotated b (bit_xor x (rotated c x)))) ≡ bit_xor (bit_xor (rotated a x) (rotated (a + b) x)) (rotated (a + (b + c)) x)
rotated-three x a b c fits small =
    let near : ℕ = rotated b (bit_xor x (rotated c x)) in
    let near_fits = rotated-lt (bit_xor x (rotated c x)) b (xor_lt 32 x (rotated c x) fits (rotated-lt x c fits)) in
    let left = rotated-lt (bit_xor x near) a (xor_lt 32 x near fits near_fits) in
    let right = xor_lt 32 (bit_xor (rotated a x) (rotated (a + b) x)) (rotated (a + (b + c)) x) (xor_lt 32 (rotated a x) (rotated (a + b) x) (rotated-lt x a fits) (rotated-lt x (a + b) fits)) (rotated-lt x (a + (b + c)) fits) in
    same_from_bits_below 32 _ _ left right (λ i low.
    let second : ((i + a) % 32 + b) % 32 ≡ (i + (a + b)) % 32 = omega arith in
    let third : ((i + a) % 32 + (b + c)) % 32 ≡ (i + (a + (b + c))) % 32 = omega arith in
    bit_of_rotated_sum x near a i fits near_fits (omega arith) low
    ∙ ap (λ (p : ℕ). (bit_at x ((i + a) % 32) + p) % 2)
    (bit_of_two x b c ((i + a) % 32) fits (omega arith) (omega arith) (omega arith) ∙ ap₂ (λ (p q : ℕ). (bit_at x p + bit_at x q) % 2) second third)
    ∙ sum_of_three (bit_at x ((i + a) % 32)) (bit_at x ((i + (a + b)) % 32)) (bit_at x ((i + (a + (b + c))) % 32))
    ∙ sym (bit_at_xor (bit_xor (rotated a x) (rotated (a + b) x)) (rotated (a + (b + c)) x) i
    ∙ ap₂ (λ (p q : ℕ). (p + q) % 2)
    (bit_at_xor (rotated a x) (rotated (a + b) x) i
    ∙ ap₂ (λ (p q : ℕ). (p + q) % 2) (bit_of_rotated x a i fits (omega arith) low) (bit_of_rotated x (a + b) i fits (omega arith) low))
    (bit_of_rotated x (a + (b + c)) i fits small low)))
