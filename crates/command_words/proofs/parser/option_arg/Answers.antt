use Rattle.command_words.proofs.Common.{Rule, rule_of, Some, ap, ◌∙◌}
use Rattle.clap.specs.declared.builder.arg.Arg.{Arg}
use Rattle.command_words.proofs.parser.option_arg.Goals as goal

pub returns-clause-rule : goal.returns-clause-rule
returns-clause-rule c = ap rule_of c.long.ensures ∙ ap (λ (rule : Rule). record rule { long = Some c.args.id.now }) c.new.ensures.rule

pub returns-clause-local : goal.returns-clause-local
returns-clause-local c = ap (λ (arg : Arg). arg.global) c.long.ensures ∙ c.new.ensures.optional.1
