use Rattle.command_words.proofs.Common.{is_one_of, ap, map, rules, ◌∙◌}
use Rattle.std.proofs.lemmas.Fn.{filter_same}
use Rattle.admission.proofs.Lists.{map-filter}
use Rattle.command_words.proofs.rule_list.RuleBookRuleList.pick.Goals as goal

pub returns : goal.returns
returns g c =
    ap (map (λ rule. rule.label)) (filter_same _ (λ rule. is_one_of c.args.named.now rule.label) _ (λ x b f' k. search rules) _ _ c.retain.ensures.filtered)
    ∙ map-filter (λ rule. rule.label) (is_one_of c.args.named.now) c.args.self.rules.items
