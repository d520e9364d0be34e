use Rattle.key_wrap.proofs.Common.{aes_decrypt, ap, arith, length, number_register, refl, sym, unwrap_steps, ℕ, ◌*◌, ◌++◌, ◌/◌, ◌∙◌, ◌≡◌}
use Rattle.key_wrap.proofs.Whole.{no_steps_left, turn_more}
use Rattle.key_wrap.proofs.unwrapping.unwrap_row.Goals as goal

pub turns-preserved : goal.turns-preserved
turns-preserved c = λ r before.
    let d = aes_decrypt c.args.kek.now in
    let here = number_register c.turns.register ++ c.turns.row in
    let count = length c.args.row.now / 8 in
    c.unwrap_turn.ensures r (ap (λ (n : ℕ). unwrap_steps d n here) (turn_more c.turns.turn count _ (omega arith) (omega arith)) ∙ c.turns.invariant r before)

pub returns : goal.returns
returns c =
    let d = aes_decrypt c.args.kek.now in
    let here = number_register c.turns.register ++ c.turns.row in
    let none : c.turns.turn ≡ 0 = omega arith in
    sym (c.turns.invariant (unwrap_steps d (6 * (length c.args.row.now / 8)) (number_register c.args.register.now ++ c.args.row.now)) refl)
    ∙ no_steps_left d here _ (rw none (omega arith))
