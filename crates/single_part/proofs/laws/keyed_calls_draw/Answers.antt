use Rattle.single_part.proofs.Draws.{exact, few}
use Rattle.single_part.proofs.laws.keyed_calls_draw.Goals as goal

pub returns : goal.returns
returns c = record { few = few; exact = exact }
