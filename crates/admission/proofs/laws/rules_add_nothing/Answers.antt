use Rattle.admission.proofs.Narrowings.{narrows}
use Rattle.admission.proofs.laws.rules_add_nothing.Goals as goal

pub returns : goal.returns
returns c = narrows
