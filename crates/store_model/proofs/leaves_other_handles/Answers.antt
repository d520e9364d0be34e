use Rattle.store_model.proofs.Others.{leaves_handles}
use Rattle.store_model.proofs.leaves_other_handles.Goals as goal

pub returns : goal.returns
returns c = leaves_handles
