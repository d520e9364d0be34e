use Rattle.std.proofs.Common.{refl}
use Rattle.psa_names.specs.Tables.{steps}
use Rattle.psa_names.proofs.tables.steps.Goals as goal

pub returns-clause-rows : goal.returns-clause-rows
unfolding steps
returns-clause-rows c = refl
