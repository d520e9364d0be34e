use Rattle.callers.proofs.Common.{IsOperation, get_or_read_under, rules, subst, ◌≡◌}
use Rattle.callers.proofs.handles.Handles.output_key_refusal.Goals as goal

pub returns-clause-refusal : goal.returns-clause-refusal
returns-clause-refusal c = λ cell operation at is. let same : cell ≡ c.index.result.now = search (rules, get_or_read_under) in c.output_key_refusal.ensures operation (subst (λ x. IsOperation x operation) same is)
