use Rattle.single_part.proofs.Models.{keyed}
use Rattle.single_part.proofs.laws.keyed_calls_are_the_models.Goals as goal

pub returns : goal.returns
returns c = keyed
