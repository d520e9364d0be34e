use Rattle.store_model.proofs.Others.{leaves_callers}
use Rattle.store_model.proofs.leaves_other_callers.Goals as goal

pub returns : goal.returns
returns c = leaves_callers
