use Rattle.ghash.proofs.GroupProducts.{products_of_zero, far_products_of_zero}
use Rattle.ghash.proofs.Ghash.wipe.Goals as goal

pub invariant_of-self : goal.invariant_of-self
invariant_of-self c = record { near_are = products_of_zero; far_are = far_products_of_zero }
