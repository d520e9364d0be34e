-- The lengths of nonces and tags, in bytes.
use Rattle.std.specs.{Prelude.ℕ, Prelude.◌≤◌, Prelude.◌==◌, Prelude.IsTrue, Prelude.[], Prelude.◌∷◌, List.list_any}

-- a nonce has 1 to 256 bytes: longer ones, which SP 800-38D, 5.2.1.1, permits too, are not offered
pub record IsNonceLength (n : ℕ) : Type 0 where
  pub some : 1 ≤ n
  pub limit : n ≤ 256

-- the tag lengths of SP 800-38D, 5.2.1.2
abbrev pub IsTagLength : ℕ → Type 0
IsTagLength t = IsTrue (list_any (λ known. known == t) (4 ∷ 8 ∷ 12 ∷ 13 ∷ 14 ∷ 15 ∷ 16 ∷ []))
