-- PBKDF2: the sum of the turns that are left.
use Rattle.kdf_core.proofs.Common.{List, [], ap, ap₂, arith, chain, drop, drop_at, hmac, length, length-append, length-drop, length-take, length-xor_bytes, refl, replicate, suc, sym, take, take-append-drop, take_at, xor_all, xor_bytes, xor_bytes-append, zero, ℕ, ◌++◌, ◌+◌, ◌-◌, ◌<◌, ◌∙◌, ◌∷◌, ◌≡◌, ◌≤◌}
use Rattle.std.specs.{Int.Bits.xor_zero_r, List.fold}

-- a sum, and c more turns after the turn u
unfoldable pub summed : (List ℕ → List ℕ) → ℕ → List ℕ → List ℕ → List ℕ → ℕ → List ℕ
summed hash n password u sum c = fold xor_bytes sum (chain hash n password (hmac hash n password u) c)

pub summed-first : (hash : List ℕ → List ℕ) (n : ℕ) (password u : List ℕ) (c : ℕ) → 1 ≤ c → summed hash n password u u (c - 1) ≡ xor_all (chain hash n password u c)
unfolding chain xor_all summed
summed-first hash n password u zero l = absurd (omega arith)
summed-first hash n password u (suc c) l =
    let before : suc c - 1 ≡ c = omega arith in
    ap (summed hash n password u u) before

pub summed-next : (hash : List ℕ → List ℕ) (n : ℕ) (password u next sum : List ℕ) (c i : ℕ) → i < c → next ≡ hmac hash n password u
    → summed hash n password next (xor_bytes sum next) (c - (i + 1)) ≡ summed hash n password u sum (c - i)
unfolding chain summed
summed-next hash n password u next sum c i l e =
    let left : c - i ≡ suc (c - (i + 1)) = omega arith in
    ap (λ (v : List ℕ). summed hash n password v (xor_bytes sum v) (c - (i + 1))) e
    ∙ sym (ap (summed hash n password u sum) left)

pub summed-last : (hash : List ℕ → List ℕ) (n : ℕ) (password u sum : List ℕ) (c : ℕ) → c ≡ 0 → summed hash n password u sum c ≡ sum
unfolding chain summed
summed-last hash n password u sum c e = ap (summed hash n password u sum) e

pub xor_zeros : (xs : List ℕ) → xor_bytes xs (replicate (length xs) 0) ≡ xs
xor_zeros [] = refl
xor_zeros (x ∷ xs) = ap₂ (λ (y : ℕ) (ys : List ℕ). y ∷ ys) (xor_zero_r x) (xor_zeros xs)

-- bytes, and zeros after them, that were xored into as many
pub xored_front : (sum turn : List ℕ) (k n : ℕ) → k ≤ n → length sum ≡ n → length turn ≡ n → drop k turn ≡ replicate (n - k) 0
    → (take k (xor_bytes sum turn) ≡ xor_bytes (take k sum) (take k turn)) × (drop k (xor_bytes sum turn) ≡ drop k sum)
xored_front sum turn k n h ls lt z =
    let front : List ℕ = xor_bytes (take k sum) (take k turn) in
    let taken = length-take k sum in
    let beside = length-take k turn in
    let left : n - k ≡ length (drop k sum) = omega (arith, length-drop k sum) in
    let zeros : drop k turn ≡ replicate (length (drop k sum)) 0 = z ∙ ap (λ (m : ℕ). replicate m 0) left in
    let back : xor_bytes (drop k sum) (drop k turn) ≡ drop k sum = ap (xor_bytes (drop k sum)) zeros ∙ xor_zeros (drop k sum) in
    let parts : xor_bytes sum turn ≡ front ++ drop k sum =
    sym (ap₂ xor_bytes (take-append-drop k sum) (take-append-drop k turn))
    ∙ xor_bytes-append (take k sum) (drop k sum) (take k turn) (drop k turn) (omega arith)
    ∙ ap (λ (l : List ℕ). front ++ l) back in
    let long : length front ≡ k = omega (arith, length-xor_bytes (take k sum) (take k turn)) in
    (ap (take k) parts ∙ take_at front (drop k sum) k long, ap (drop k) parts ∙ drop_at front (drop k sum) k long)

-- the front of as many bytes written over
pub front_copied : (front old : List ℕ) (k n : ℕ) → length front ≡ k → k ≤ n → length old ≡ n
    → let now : List ℕ = front ++ drop k old in (take k now ≡ front) × (drop k now ≡ drop k old) × (length now ≡ n)
front_copied front old k n lf h lo =
    (take_at front (drop k old) k lf, drop_at front (drop k old) k lf, omega (arith, length-append front (drop k old), length-drop k old))
