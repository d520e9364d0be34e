-- Whether a payload's length fits.
use Rattle.aead_ccm.proofs.Common.{IsTrue, arith, div-eq_of_lt, eq-eqb, eqb, eqb-true, lt-div-mul-add, ℕ, ◌*◌, ◌+◌, ◌/◌, ◌<◌, ◌^◌, ◌↔◌, ◌≡◌}
use Rattle.std.proofs.lemmas.Nat.{pow_pos}

below : (p m : ℕ) → 0 < m → p / m ≡ 0 → p < m
below p m some none =
    let bound : p < p / m * m + m = lt-div-mul-add some in
    omega (arith, rw none at bound)

pub fits : (p k : ℕ) → IsTrue (eqb (p / 2 ^ k) 0) ↔ (p < 2 ^ k)
fits p k = (λ h. below p (2 ^ k) (pow_pos k) (eqb-true (p / 2 ^ k) 0 h), λ h. eq-eqb (p / 2 ^ k) 0 (div-eq_of_lt h))
