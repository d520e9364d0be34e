use Rattle.store_model.proofs.Others.{draws}
use Rattle.store_model.proofs.draws_few_words.Goals as goal

pub returns : goal.returns
returns c = draws
