use Rattle.ghash.proofs.{Common.ap, Common.arith, Common.bit_xor, Common.joined_halves, Common.times_x4, Common.◌∙◌, Halves.halves_shifted}
use Rattle.ghash.proofs.groups.Halves.times_x4_plus.Goals as goal

pub returns : goal.returns
returns c =
    let high = c.args.self.high in
    let low = c.args.self.low in
    halves_shifted high low c.of-added.result.high c.of-added.result.low (omega (arith, c.well_formed)) (omega (arith, c.of-added.type_inv))
    ∙ ap (bit_xor (times_x4 (joined_halves high low))) c.of-added.ensures
