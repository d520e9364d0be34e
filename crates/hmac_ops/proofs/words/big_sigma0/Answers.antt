use Rattle.hmac_ops.proofs.{Common.arith, Rotations.rotated-three}
use Rattle.hmac_ops.proofs.words.big_sigma0.Goals as goal

pub returns : goal.returns
returns c = rw (c.rotate_right-3.ensures, c.rotate_right-2.ensures, c.rotate_right.ensures) (rotated-three c.args.x 2 11 9 (omega arith) (omega arith))
