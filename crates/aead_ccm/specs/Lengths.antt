-- The lengths that CCM permits, in bytes (SP 800-38C, A.1).
use Rattle.std.specs.{Prelude.ℕ, Prelude.◌-◌, Prelude.◌*◌, Prelude.◌^◌, Prelude.◌<◌, Prelude.◌≤◌, Prelude.◌==◌, Prelude.IsTrue, Prelude.[], Prelude.◌∷◌, List.list_any}

pub record IsNonceLength (n : ℕ) : Type 0 where
  pub low : 7 ≤ n
  pub high : n ≤ 13

abbrev pub IsTagLength : ℕ → Type 0
IsTagLength t = IsTrue (list_any (λ known. known == t) (4 ∷ 6 ∷ 8 ∷ 10 ∷ 12 ∷ 14 ∷ 16 ∷ []))

-- a payload's length is written in the 15 - n bytes that a nonce of n bytes leaves
abbrev pub IsPayloadLength : ℕ → ℕ → Type 0
IsPayloadLength n p = p < 2 ^ (8 * (15 - n))
