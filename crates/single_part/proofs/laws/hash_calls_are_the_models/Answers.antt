use Rattle.single_part.proofs.Keys as keys
use Rattle.single_part.proofs.Models as models
use Rattle.single_part.proofs.laws.hash_calls_are_the_models.Goals as goal

pub returns : goal.returns
returns c = record { replies = models.hashes; reads = keys.hashes }
