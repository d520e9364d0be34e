-- The key stream of CCM by counter blocks as numbers.
use Rattle.std.specs.Prelude.{ℕ, zero, suc, ◌+◌, [], ◌++◌, bit_xor, List}
use Rattle.crypto_specs.specs.Prelude.{number_block}

-- n blocks, from the counter block after `first` on: i is xored into the zeros that `first` ends in
unfoldable pub masks : (List ℕ → List ℕ) → ℕ → ℕ → List ℕ
masks e first zero = []
masks e first (suc n) = masks e first n ++ e (number_block (bit_xor first (n + 1)))
