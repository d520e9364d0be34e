use Rattle.command_words.proofs.Common.{IsUtf8, labels_in, is_some, length, ◌≡◌}
use Rattle.command_words.proofs.labels.are_labels.Given as goal

abbrev pub invariant-loop-word : goal.invariant-loop-word
invariant-loop-word g l = record {
  text : IsUtf8 l.rest;
  read : is_some (labels_in (g.L.RuleList.labels l.fn.rules) l.fn.text) ≡ is_some (labels_in (g.L.RuleList.labels l.fn.rules) l.rest);
}

abbrev pub decreases-loop-word : goal.decreases-loop-word
decreases-loop-word g l = length l.rest
