use Rattle.aes_core.proofs.{Common.refl, Expansion.next_word_is}
use Rattle.aes_core.proofs.schedule.next_word.Goals as goal

pub returns : goal.returns
returns c = next_word_is c.args.words c.args.i c.schedule_core.result c.args.schedule.now _ refl c.schedule_core.ensures
