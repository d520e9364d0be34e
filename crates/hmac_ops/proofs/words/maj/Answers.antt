use Rattle.hmac_ops.proofs.Choices.{maj_by_four}
use Rattle.hmac_ops.proofs.words.maj.Goals as goal

pub returns : goal.returns
returns c = maj_by_four c.args.x c.args.y c.args.z
