use Rattle.admission.proofs.{Common.labels_in, Common.length, Common.map, Common.◌≡◌, Texts.behind}
use Rattle.std.specs.Str.{IsUtf8}
use Rattle.admission.proofs.words.read_labels.Given as goal

abbrev pub invariant-loop-word : goal.invariant-loop-word
invariant-loop-word g l = record {
  text : IsUtf8 l.rest;
  read : labels_in (map (λ rule. rule.label) l.fn.rules) l.fn.text ≡ behind l.labels.items (labels_in (map (λ rule. rule.label) l.fn.rules) l.rest);
}

abbrev pub decreases-loop-word : goal.decreases-loop-word
decreases-loop-word g l = length l.rest
