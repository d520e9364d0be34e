use Rattle.std.proofs.Common.{refl}
use Rattle.psa_names.specs.Tables.{lifetimes}
use Rattle.psa_names.proofs.tables.lifetimes.Goals as goal

pub returns : goal.returns
unfolding lifetimes
returns c = refl
