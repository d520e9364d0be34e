use Rattle.std.proofs.Common.{inl, inr, refl}
use Rattle.owner_space.specs.Owners.{no_identifier}
use Rattle.owner_space.proofs.{Identifiers.names_are_apart, Identifiers.names_come_back, Owned.no_key}
use Rattle.owner_space.proofs.owners_name_their_own.Goals as goal

pub returns-clause-back : goal.returns-clause-back
returns-clause-back c = names_come_back

pub returns-clause-apart : goal.returns-clause-apart
returns-clause-apart c = names_are_apart

pub returns-clause-nobody : goal.returns-clause-nobody
returns-clause-nobody c = λ store sound. (no_key store sound no_identifier (inr refl), no_key store sound 0 (inl refl))
