use Rattle.store_model.proofs.SoundService.{by_number}
use Rattle.store_model.proofs.alive_by_number.Goals as goal

pub returns : goal.returns
returns c = by_number
