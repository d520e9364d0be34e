use Rattle.store_model.proofs.Others.{leaves_shared, leaves_settings, counts_once}
use Rattle.store_model.proofs.leaves_shared.Goals as goal

pub returns : goal.returns
returns c = record { shared = leaves_shared; settings = leaves_settings; counts = counts_once }
