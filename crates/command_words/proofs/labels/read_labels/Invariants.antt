use Rattle.command_words.proofs.Common.{behind, IsUtf8, labels_in, length, ◌≡◌}
use Rattle.command_words.proofs.labels.read_labels.Given as goal

abbrev pub invariant-loop-word : goal.invariant-loop-word
invariant-loop-word g l = record {
  text : IsUtf8 l.rest;
  read : labels_in (g.L.RuleList.labels l.fn.rules) l.fn.text ≡ behind l.labels.items (labels_in (g.L.RuleList.labels l.fn.rules) l.rest);
}

abbrev pub decreases-loop-word : goal.decreases-loop-word
decreases-loop-word g l = length l.rest
