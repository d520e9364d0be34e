use Rattle.callers.proofs.Common.{HandleOperation, IfNone, IfSome, IsOperation, KeyUse, None, Option, RefusesKeyAt, Some, TakesKeyAt, get_or_read_under, rules, subst, sym, ◌≡◌}
use Rattle.callers.proofs.handles.Handles.wanted_at.Goals as goal

some_as : (P Q : KeyUse → Type 0) (found : Option KeyUse) → IfSome found P → ((x : KeyUse) → P x → Q x) → IfSome found Q
some_as P Q None p f = tt
some_as P Q (Some x) p f = f x p

none_as : (P Q : Type 0) (found : Option KeyUse) → IfNone found P → (P → Q) → IfNone found Q
none_as P Q None p f = f p
none_as P Q (Some x) p f = tt

pub returns-clause-found : goal.returns-clause-found
returns-clause-found c =
    some_as (λ wanted. (operation : HandleOperation) → IsOperation c.index.result.now operation → TakesKeyAt operation c.args.step wanted × (c.index.result.now.lease ≡ None)) _ c.wanted_at.result c.wanted_at.ensures.found
    (λ wanted says cell operation at is. let same : cell ≡ c.index.result.now = search (rules, get_or_read_under) in subst (λ x. TakesKeyAt operation c.args.step wanted × (x.lease ≡ None)) (sym same) (says operation (subst (λ x. IsOperation x operation) same is)))

pub returns-clause-refused : goal.returns-clause-refused
returns-clause-refused c =
    none_as ((operation : HandleOperation) → IsOperation c.index.result.now operation → RefusesKeyAt operation c.args.step) _ c.wanted_at.result c.wanted_at.ensures.refused
    (λ says cell operation at is. let same : cell ≡ c.index.result.now = search (rules, get_or_read_under) in says operation (subst (λ x. IsOperation x operation) same is))
