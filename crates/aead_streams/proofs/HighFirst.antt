-- Numbers in bytes, first byte highest.
use Rattle.aead_streams.proofs.Common.{List, ap, ap₂, arith, byte_at, byte_at_is, bytes_high_first, div-div-eq-div-mul, mod_below, mul_comm, pow-add, pow-suc, power_positive, refl, same_from_place, suc, sym, zero, ℕ, ◌%◌, ◌*◌, ◌++◌, ◌+◌, ◌/◌, ◌<◌, ◌^◌, ◌∙◌, ◌∷◌, ◌≡◌}
use Rattle.std.proofs.Math.Arith.{mod-mul}

-- the high bytes are those of the quotient
pub high_and_low : (h k n : ℕ) → bytes_high_first (h + k) n ≡ bytes_high_first h (n / 256 ^ k) ++ bytes_high_first k n
high_and_low zero k n = ap (λ (m : ℕ). bytes_high_first m n) (omega arith)
high_and_low (suc h) k n =
    let more : suc h + k ≡ suc (h + k) = omega arith in
    let first : byte_at (h + k) n ≡ byte_at h (n / 256 ^ k) =
    byte_at_is (h + k) n ∙ ap (λ (m : ℕ). m % 256) (quotients n h k) ∙ sym (byte_at_is h (n / 256 ^ k)) in
    ap (λ (m : ℕ). bytes_high_first m n) more ∙ ap₂ (λ (b : ℕ) (l : List ℕ). b ∷ l) first (high_and_low h k n)
  where
    quotients : (n h k : ℕ) → n / 256 ^ (h + k) ≡ n / 256 ^ k / 256 ^ h
    quotients n h k =
        let same : h + k ≡ k + h = omega arith in
        rw (same, pow-add 256 k h) (sym (div-div-eq-div-mul n (256 ^ k) (256 ^ h)))

-- the bytes are decided by the remainder, and decide it
pub same_bytes : (k n m : ℕ) → n % 256 ^ k ≡ m % 256 ^ k → bytes_high_first k n ≡ bytes_high_first k m
same_bytes zero n m e = refl
same_bytes (suc k) n m e =
    let p : ℕ = 256 ^ k in
    let positive : 0 < p = power_positive k in
    let split : (x : ℕ) → x % 256 ^ suc k ≡ x / p % 256 * p + x % p = λ x. ap (λ (q : ℕ). x % q) (pow-suc 256 k ∙ mul_comm p 256) ∙ mod-mul x {m = 256} {c = p} (omega arith) positive in
    let both : (n / p % 256 ≡ m / p % 256) × (n % p ≡ m % p) = same_from_place (n / p % 256) (n % p) (m / p % 256) (m % p) p (mod_below n p positive) (mod_below m p positive) (sym (split n) ∙ e ∙ split m) in
    ap₂ (λ (b : ℕ) (l : List ℕ). b ∷ l) (byte_at_is k n ∙ both.0 ∙ sym (byte_at_is k m)) (same_bytes k n m both.1)

pub same_remainder : (k n m : ℕ) → bytes_high_first k n ≡ bytes_high_first k m → n % 256 ^ k ≡ m % 256 ^ k
same_remainder zero n m e = omega arith
same_remainder (suc k) n m e =
    let p : ℕ = 256 ^ k in
    let positive : 0 < p = power_positive k in
    let split : (x : ℕ) → x % 256 ^ suc k ≡ x / p % 256 * p + x % p = λ x. ap (λ (q : ℕ). x % q) (pow-suc 256 k ∙ mul_comm p 256) ∙ mod-mul x {m = 256} {c = p} (omega arith) positive in
    let first : byte_at k n ≡ byte_at k m = cc in
    let rest : bytes_high_first k n ≡ bytes_high_first k m = cc in
    split n ∙ ap₂ (λ (b r : ℕ). b * p + r) (sym (byte_at_is k n) ∙ first ∙ byte_at_is k m) (same_remainder k n m rest) ∙ sym (split m)
