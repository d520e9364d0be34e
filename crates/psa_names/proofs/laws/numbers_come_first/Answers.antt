use Rattle.std.proofs.Common.{ap}
use Rattle.std.specs.Option.{option_or}
use Rattle.psa_names.specs.{Algorithms.algorithm_named, Algorithms.read_algorithm, Names.number_named, Names.read_key_type, Names.read_lifetime, Names.read_step, Tables.key_types, Tables.lifetimes, Tables.steps}
use Rattle.psa_names.proofs.Flags.{number_is_usage}
use Rattle.psa_names.proofs.laws.numbers_come_first.Goals as goal

pub returns-clause-key_types : goal.returns-clause-key_types
unfolding read_key_type
returns-clause-key_types c text n h = ap (λ o. option_or o (number_named key_types text)) h

pub returns-clause-usages : goal.returns-clause-usages
returns-clause-usages c text n h = number_is_usage n text h

pub returns-clause-algorithms : goal.returns-clause-algorithms
unfolding read_algorithm
returns-clause-algorithms c text n h = ap (λ o. option_or o (algorithm_named text)) h

pub returns-clause-lifetimes : goal.returns-clause-lifetimes
unfolding read_lifetime
returns-clause-lifetimes c text n h = ap (λ o. option_or o (number_named lifetimes text)) h

pub returns-clause-steps : goal.returns-clause-steps
unfolding read_step
returns-clause-steps c text n h = ap (λ o. option_or o (number_named steps text)) h
