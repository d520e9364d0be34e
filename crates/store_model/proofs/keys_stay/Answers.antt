use Rattle.store_model.proofs.KeysAfter.{keys_stay}
use Rattle.store_model.proofs.keys_stay.Goals as goal

pub returns : goal.returns
returns c = keys_stay
