use Rattle.store_model.proofs.Causes.{go_on, allowed_go_on}
use Rattle.store_model.proofs.causes_go_on.Goals as goal

pub returns : goal.returns
returns c = record { causes = go_on; allowed = allowed_go_on }
