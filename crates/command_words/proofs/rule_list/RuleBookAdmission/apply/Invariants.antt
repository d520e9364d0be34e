use Rattle.command_words.proofs.Common.{after_rules, drop, map, ◌≡◌}
use Rattle.command_words.proofs.rule_list.RuleBookAdmission.apply.Given as goal

abbrev pub invariant-loop-rule : goal.invariant-loop-rule
invariant-loop-rule g l = after_rules (map (λ rule. rule.label) (drop l.rule-index l.rule-items)) l.kept ≡ after_rules (map (λ rule. rule.label) l.rule-items) l.attributes
