use Rattle.hmac_ops.proofs.{Common.arith, Choices.ch_by_three}
use Rattle.hmac_ops.proofs.words.ch.Goals as goal

pub returns : goal.returns
returns c = ch_by_three c.args.x c.args.y c.args.z (omega arith) (omega arith) (omega arith)
