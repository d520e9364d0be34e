use Rattle.admission.proofs.{Common.ap, Common.is_one_of, Common.map, Common.rules, Common.◌∙◌, Lists.map-filter}
use Rattle.std.proofs.lemmas.Fn.{filter_same}
use Rattle.admission.proofs.rules.Rules.pick.Goals as goal

pub returns : goal.returns
returns g c =
    ap (map (λ rule. rule.label)) (filter_same _ (λ rule. is_one_of c.args.labels.now rule.label) _ (λ x b f' k. search rules) _ _ c.retain.ensures.filtered)
    ∙ map-filter (λ rule. rule.label) (is_one_of c.args.labels.now) c.args.list.items
