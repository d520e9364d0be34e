use Rattle.crypto_specs.proofs.GhashLaws.{product_of_first_sum, product_of_second_sum}
use Rattle.crypto_specs.proofs.block_product_is_linear.Goals as goal

pub returns : goal.returns
returns c = record { first = product_of_first_sum; second = product_of_second_sum }
