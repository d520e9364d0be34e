-- What the callers have out of the slots.
use Rattle.std.specs.Prelude.{◌≡◌, ◌≤◌, ℕ, ◌+◌, ◌==◌, nat_lt, cond, count_by, List, [], ◌∷◌, length, All}

-- What one caller has out: a lease is the pair of its slot and its creation number plus 1, and a filling the pair of its slot
-- and 0.
abbrev pub Pairs : Type 0
Pairs = List (ℕ × ℕ)

-- 1 where a pair is of the slot i and the second number n, and else 0
abbrev pub same : (i n : ℕ) → ℕ × ℕ → ℕ
same i n p = cond (p.0 == i) (cond (p.1 == n) 1 0) 0

-- how often a caller names the slot i with the second number n
abbrev pub names : (i n : ℕ) → Pairs → ℕ
names i n [] = 0
names i n (p ∷ ps) = same i n p + names i n ps

-- how often all callers do
abbrev pub named : (i n : ℕ) → List Pairs → ℕ
named i n [] = 0
named i n (own ∷ all) = names i n own + named i n all

-- the second holdings have this pair once more than the first
abbrev pub Gains : (all more : List Pairs) → ℕ × ℕ → Type 0
Gains all more p = (i n : ℕ) → named i n more ≡ named i n all + same i n p

-- a caller has at most five leases and one filling out
pub record IsHolding (own : Pairs) : Type 0 where
  pub leases : count_by (λ p. nat_lt 0 p.1) own ≤ 5
  pub fillings : count_by (λ p. p.1 == 0) own ≤ 1

-- there are at most sixteen callers
pub record AreHoldings (all : List Pairs) : Type 0 where
  pub callers : length all ≤ 16
  pub each : All IsHolding all
