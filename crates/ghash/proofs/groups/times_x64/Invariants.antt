use Rattle.ghash.proofs.Common.{joined_halves, shifted, ◌*◌, ◌≡◌}
use Rattle.ghash.proofs.groups.times_x64.Given as goal

abbrev pub invariant-groups : goal.invariant-groups
invariant-groups l = joined_halves l.product.high l.product.low ≡ shifted (4 * l.counter) l.block
