use Rattle.std.proofs.Common.{refl}
use Rattle.psa_names.specs.Tables.{algorithms}
use Rattle.psa_names.proofs.tables.algorithms.Goals as goal

pub returns : goal.returns
unfolding algorithms
returns c = refl
