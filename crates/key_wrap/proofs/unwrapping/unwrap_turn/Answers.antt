use Rattle.key_wrap.proofs.Common.{aes_decrypt, ap, arith, drop, length, length-drop, length-take, number_register, unwrap_steps, ℕ, ◌*◌, ◌++◌, ◌+◌, ◌-◌, ◌∙◌, ◌≡◌}
use Rattle.key_wrap.proofs.Indexed.{unwrapped_at}
use Rattle.key_wrap.proofs.Rotations.{turned}
use Rattle.key_wrap.proofs.unwrapping.unwrap_turn.Goals as goal

pub registers-preserved : goal.registers-preserved
registers-preserved c = λ r before.
    let d = aes_decrypt c.args.kek.now in
    let row = c.registers.row in
    let a = number_register c.registers.register in
    let i = c.registers.i - 1 in
    let t = c.args.before + i in
    let past = 8 * c.registers.i in
    let new = c.unwrap_step.new.other in
    let w = 8 * i + 8 - 8 * i in
    let long : length new ≡ w = omega (arith, c.unwrap_step.auto.other, length-take w (drop (8 * i) row), length-drop (8 * i) row) in
    unwrapped_at d r a (number_register c.unwrap_step.new.register) row new t (t + 1) (8 * i) w past
    (omega arith) (omega arith) (omega arith) long c.unwrap_step.ensures
    (ap (λ (n : ℕ). unwrap_steps d n (a ++ turned past row)) (omega arith) ∙ c.registers.invariant r before)
