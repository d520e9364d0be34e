use Rattle.store_model.proofs.Unmarked.{marks_alone}
use Rattle.store_model.proofs.marks_alone.Goals as goal

pub returns : goal.returns
returns c = marks_alone
