use Rattle.ghash.proofs.Common.{products_of, sum_of_multiples, xor_assoc, xor_zero_r}
use Rattle.ghash.proofs.groups.products.Goals as goal

pub returns : goal.returns
unfolding products_of sum_of_multiples
returns c = simp (c.times_x-x3.ensures, c.times_x-x2.ensures, c.times_x-x1.ensures, xor_zero_r, xor_assoc)
