use Rattle.key_index.proofs.{Common.arith, Counts.between}
use Rattle.key_index.proofs.index.KeyIndex.count_between.Goals as goal

pub overflow_sub-result : goal.overflow_sub-result
overflow_sub-result g c =
    let to_last = rw (c.as_slice.ensures.value, c.self.view_is) at c.count_to.ensures in
    let below = rw (c.as_slice-2.ensures.value, c.self.view_is) at c.count_below.ensures in
    omega (arith, to_last, below, between c.args.first c.args.last c.args.self.now c.requires)

pub returns : goal.returns
returns g c =
    let to_last = rw (c.as_slice.ensures.value, c.self.view_is) at c.count_to.ensures in
    let below = rw (c.as_slice-2.ensures.value, c.self.view_is) at c.count_below.ensures in
    omega (arith, to_last, below, between c.args.first c.args.last c.args.self.now c.requires)
