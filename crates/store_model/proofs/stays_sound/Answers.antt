use Rattle.store_model.proofs.SoundService.{starts, stays}
use Rattle.store_model.proofs.stays_sound.Goals as goal

pub returns : goal.returns
returns c = record { starts = starts; stays = stays }
