use Rattle.ghash.proofs.BitProducts.{times_x_odd, times_x_even}
use Rattle.ghash.proofs.bits.times_x.Goals as goal

pub returns-then-v-eq1 : goal.returns-then-v-eq1
returns-then-v-eq1 c = times_x_odd c.args.v c.if-v-eq1.true

pub returns-else-v-eq1 : goal.returns-else-v-eq1
returns-else-v-eq1 c = times_x_even c.args.v c.if-v-eq1.false
