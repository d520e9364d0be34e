use Rattle.key_cells.proofs.Bodies.{of_one_key}
use Rattle.key_cells.proofs.body.a_body_is_of_one_key.Goals as goal

pub returns : goal.returns
returns c = of_one_key
