use Rattle.store_model.proofs.{Found.none_found, GainNothing.gain_nothing}
use Rattle.store_model.proofs.copies_gain_nothing.Goals as goal

pub returns : goal.returns
returns c = record { gains = gain_nothing; start = none_found }
