-- Blocks as numbers.
use Rattle.cmac_ops.proofs.Common.{List, ap, block_number, length, number_block, number_of_block, sym, ℕ, ◌<◌, ◌^◌, ◌∙◌, ◌≡◌}

-- a block has 16 bytes
pub length-block : (n : ℕ) (b : List ℕ) → number_block n ≡ b → length b ≡ 16
unfolding number_block
length-block n b e = sym (ap length e)

-- the number whose block it is
pub number_from : (n : ℕ) (b : List ℕ) → n < 2 ^ 128 → number_block n ≡ b → n ≡ block_number b
number_from n b small e = sym (number_of_block n small) ∙ ap block_number e
