use Rattle.std.proofs.Common.{refl}
use Rattle.psa_names.specs.Tables.{usages}
use Rattle.psa_names.proofs.tables.usages.Goals as goal

pub returns : goal.returns
unfolding usages
returns c = refl
