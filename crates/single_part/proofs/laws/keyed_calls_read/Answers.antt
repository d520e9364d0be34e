use Rattle.single_part.proofs.Keys.{keyed}
use Rattle.single_part.proofs.laws.keyed_calls_read.Goals as goal

pub returns : goal.returns
returns c = keyed
