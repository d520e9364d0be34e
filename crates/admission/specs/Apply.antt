-- What rules make of the attributes of a new key.
use Rattle.std.specs.{Prelude.◌≡◌, Prelude.Bool, Prelude.List, Prelude.bytes_eq, Prelude.filter, List.list_any}
use Rattle.key_attributes.specs.declared.Attributes.{Attributes}
pub use Rattle.policy_rules.specs.Narrow.{after_rules}
use Rattle.policy_rules.specs.{Policy.IsWithin, declared.narrowing.Label.Label}
use Rattle.admission.specs.Words.{label_word}

-- whether a label is one of these: they are told apart by their words
abbrev pub is_one_of : List Label → Label → Bool
is_one_of labels label = list_any (λ other. bytes_eq (label_word other) (label_word label)) labels

-- of the labels of a list those that are named, in the list's order
abbrev pub picked : (named list : List Label) → List Label
picked named list = filter (is_one_of named) list

-- beside the policy all is as it was, and the policy has no flag and allows no algorithm that the one before doesn't
pub record Narrows (before after : Attributes) : Type 0 where
  pub policy : IsWithin after.policy before.policy
  pub rest : after ≡ record before { policy = after.policy }
