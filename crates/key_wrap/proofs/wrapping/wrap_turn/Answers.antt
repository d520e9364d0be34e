use Rattle.key_wrap.proofs.Common.{aes_encrypt, ap, arith, drop, length, length-drop, length-take, number_register, wrap_steps, ℕ, ◌*◌, ◌+◌, ◌-◌, ◌∙◌, ◌≡◌}
use Rattle.key_wrap.proofs.Indexed.{wrapped_at}
use Rattle.key_wrap.proofs.wrapping.wrap_turn.Goals as goal

pub registers-preserved : goal.registers-preserved
registers-preserved c = λ r before.
    let e = aes_encrypt c.args.kek.now in
    let row = c.registers.row in
    let done = c.args.done in
    let i = c.registers.i in
    let new = c.wrap_step.new.other in
    let w = 8 * i + 8 - 8 * i in
    let long : length new ≡ w = omega (arith, c.wrap_step.auto.other, length-take w (drop (8 * i) row), length-drop (8 * i) row) in
    ap (λ (n : ℕ). wrap_steps e n r) (omega arith)
    ∙ wrapped_at e r (number_register c.registers.register) (number_register c.wrap_step.new.register) row new (done + i) (done + i + 1) (8 * i) w (8 * (i + 1))
    (omega arith) (omega arith) (omega arith) long c.wrap_step.ensures (c.registers.invariant r before)
