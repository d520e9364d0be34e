use Rattle.std.proofs.Common.{refl}
use Rattle.alg_encoding.specs.{Encoding.base_of, Encoding.entry_of, Table.base_at}
use Rattle.psa_names.specs.Tables.{algorithms, key_types}
use Rattle.psa_names.proofs.Found.{is_found}
use Rattle.psa_names.proofs.laws.all_are_named.Goals as goal

pub returns-clause-key_types : goal.returns-clause-key_types
unfolding key_types
returns-clause-key_types c n = is_found n key_types

pub returns-clause-algorithms : goal.returns-clause-algorithms
unfolding algorithms base_of entry_of base_at
returns-clause-algorithms c = refl
