use Rattle.command_words.proofs.Common.{label_named, drop, map, ◌≡◌}
use Rattle.command_words.proofs.rule_list.RuleBookRuleList.labelled.Given as goal

abbrev pub invariant-loop-rule : goal.invariant-loop-rule
invariant-loop-rule g l = label_named (map (λ rule. rule.label) l.rule-items) l.word ≡ label_named (map (λ rule. rule.label) (drop l.rule-index l.rule-items)) l.word
