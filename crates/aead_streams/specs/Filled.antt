-- Blocks of 16 bytes whose front is in use.
use Rattle.std.specs.Prelude.{◌≡◌, ℕ, ◌-◌, ◌≤◌, List, drop, replicate}

-- the bytes past those in use are zeros
pub record HasZerosPast (used : ℕ) (block : List ℕ) : Type 0 where
  pub limit : used ≤ 16
  pub rest : drop used block ≡ replicate (16 - used) 0
