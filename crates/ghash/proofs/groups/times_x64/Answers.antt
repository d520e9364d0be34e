use Rattle.ghash.proofs.{Common.ap, Common.arith, Common.joined_halves, Common.shifted, Common.times_x4, Common.xor_zero_r, Common.ℕ, Common.◌*◌, Common.◌∙◌, GroupProducts.shifted_more}
use Rattle.ghash.proofs.groups.times_x64.Goals as goal

pub groups-init : goal.groups-init
unfolding shifted
groups-init c = c.of-product.ensures

pub groups-preserved : goal.groups-preserved
groups-preserved c =
    let block = c.args.block in
    let product : ℕ = joined_halves c.groups.product.high c.groups.product.low in
    c.times_x4_plus-next.ensures ∙ xor_zero_r (times_x4 product) ∙ ap times_x4 c.groups.invariant
    ∙ shifted_more (4 * c.groups.counter) block ∙ ap (λ (n : ℕ). shifted n block) (omega arith)

pub returns : goal.returns
returns c = c.joined.ensures ∙ c.groups.invariant ∙ ap (λ (n : ℕ). shifted n c.args.block) (omega (arith, c.groups.auto.counter-end))
