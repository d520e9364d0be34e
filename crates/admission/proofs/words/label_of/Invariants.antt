use Rattle.admission.proofs.Common.{drop, label_named, map, ◌≡◌}
use Rattle.admission.proofs.words.label_of.Given as goal

abbrev pub invariant-loop-rule : goal.invariant-loop-rule
invariant-loop-rule g l = label_named (map (λ rule. rule.label) l.rules) l.word ≡ label_named (map (λ rule. rule.label) (drop l.rule-index l.rules)) l.word
