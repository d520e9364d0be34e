use Rattle.hmac_ops.proofs.{Common.ap, Common.arith, Common.bit_xor, Common.ℕ, Common.◌/◌, Common.◌^◌, Rotations.rotated-two}
use Rattle.hmac_ops.proofs.words.small_sigma1.Goals as goal

pub returns : goal.returns
returns c = rw (c.rotate_right-2.ensures, c.rotate_right.ensures) (ap (λ (y : ℕ). bit_xor y (c.args.x / 2 ^ 10)) (rotated-two c.args.x 17 2 (omega arith) (omega arith)))
