use Rattle.store_model.proofs.KeysAfter.{rules_followed}
use Rattle.store_model.proofs.rules_are_followed.Goals as goal

pub returns : goal.returns
returns c = rules_followed
