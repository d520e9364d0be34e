use Rattle.std.proofs.Common.{sym, ◌∙◌}
use Rattle.key_policy.proofs.Parsing.{with_length, without_length}
use Rattle.key_policy.proofs.algorithms.Algorithm.of.Goals as goal

pub returns-in-None : goal.returns-in-None
returns-in-None c = c.algorithm_at.ensures ∙ without_length c.args.alg.0 (sym c.tag_length.ensures.value ∙ c.in-None.is)

pub returns-in_default : goal.returns-in_default
returns-in_default c = rw (c.algorithm_at-in_default.ensures, c.base.ensures) (with_length c.args.alg.0 _ (sym c.tag_length.ensures.value) c.in_default.not-None)
