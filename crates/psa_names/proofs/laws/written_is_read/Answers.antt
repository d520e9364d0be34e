use Rattle.std.proofs.Common.{arith, ◌^◌}
use Rattle.psa_names.specs.{Names.key_type_text, Names.lifetime_text, Names.read_key_type, Names.read_lifetime, Names.read_step, Names.step_text, Tables.key_types, Tables.lifetimes, Tables.steps}
use Rattle.psa_names.proofs.{Flags.usage_is_read, ReadBack.key_types_read, ReadBack.lifetimes_read, ReadBack.name_is_read, ReadBack.steps_read, Tags.algorithm_is_read}
use Rattle.psa_names.proofs.laws.written_is_read.Goals as goal

pub returns-clause-key_types : goal.returns-clause-key_types
unfolding key_type_text read_key_type
returns-clause-key_types c n h = name_is_read key_types 4 (2 ^ 16) n key_types_read (omega arith) (omega arith) h h

pub returns-clause-usages : goal.returns-clause-usages
returns-clause-usages c n h = usage_is_read n h

pub returns-clause-algorithms : goal.returns-clause-algorithms
returns-clause-algorithms c n h = algorithm_is_read n h

pub returns-clause-lifetimes : goal.returns-clause-lifetimes
unfolding lifetime_text read_lifetime
returns-clause-lifetimes c n h = name_is_read lifetimes 8 (2 ^ 32) n lifetimes_read (omega arith) (omega arith) h h

pub returns-clause-steps : goal.returns-clause-steps
unfolding step_text read_step
returns-clause-steps c n h = name_is_read steps 4 (2 ^ 16) n steps_read (omega arith) (omega arith) h h
