use Rattle.std.proofs.Common.{refl}
use Rattle.psa_names.specs.Tables.{key_types}
use Rattle.psa_names.proofs.tables.key_types.Goals as goal

pub returns-clause-rows : goal.returns-clause-rows
unfolding key_types
returns-clause-rows c = refl
