use Rattle.std.proofs.Common.{IfOk, None, Some, ap, false, rules, subst, ◌++◌, ◌∙◌, ◌≡◌}
use Rattle.std.specs.Fmt.{digits}
use Rattle.psa_names.specs.Algorithms.{tag_text}
use Rattle.psa_names.proofs.Tags.{text_found, text_tagged}
use Rattle.psa_names.proofs.algorithms.text_of.Goals as goal

pub returns-in_default : goal.returns-in_default
returns-in_default c =
    let is = ap (digits 16 false) c.number.ensures ∙ text_found c.args.algorithm.0 c.base.result c.algorithms.result.now None c.algorithms.ensures c.base.ensures c.in_default.ensures in
    subst (λ t. IfOk c.hex_text.result (λ text. text.items ≡ t)) is c.hex_text.ensures

pub returns-in_ok-push_tag-in-Some-tag_of : goal.returns-in_ok-push_tag-in-Some-tag_of
returns-in_ok-push_tag-in-Some-tag_of c =
    let name : c.in_ok-text-in-Some-tag_of.text.items ≡ c.in-Some.name.now.text.now = search rules in
    c.in_ok-push_tag-in-Some-tag_of.ensures
    ∙ ap (λ t. t ++ tag_text c.in-Some-tag_of.tag) name
    ∙ text_tagged c.args.algorithm.0 c.base.result c.of.result.0 c.algorithms.result.now c.in-Some.name.now (Some c.in-Some-tag_of.tag) c.algorithms.ensures c.base.ensures c.in-Some.ensures c.of.ensures c.in-Some-tag_of.ensures

pub returns-in-None : goal.returns-in-None
returns-in-None c =
    let is = ap (digits 16 false) c.number-in-None.ensures
    ∙ text_tagged c.args.algorithm.0 c.base.result c.of.result.0 c.algorithms.result.now c.in-Some.name.now None c.algorithms.ensures c.base.ensures c.in-Some.ensures c.of.ensures c.in-None.ensures in
    subst (λ t. IfOk c.hex_text-in-None.result (λ text. text.items ≡ t)) is c.hex_text-in-None.ensures
