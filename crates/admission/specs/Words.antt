-- The words of the labels.
use Rattle.std.specs.{Prelude.ℕ, Prelude.List, Prelude.[], Prelude.◌∷◌, Prelude.Option, Prelude.Some, Prelude.◌==◌, Prelude.bytes_eq, Prelude.codes, Prelude.find, List.slice_split, Option.option_map, Option.option_and_then}
use Rattle.policy_rules.specs.{declared.narrowing.Label.Label, declared.narrowing.Label.TheVariants.NoExport, declared.narrowing.Label.TheVariants.NoCopy, declared.narrowing.Label.TheVariants.NoEcb, declared.narrowing.Label.TheVariants.Aes256}

abbrev pub label_word : Label → List ℕ
label_word NoExport = codes "no-export"
label_word NoCopy = codes "no-copy"
label_word NoEcb = codes "no-ecb"
label_word Aes256 = codes "aes256"

-- the given label with a word
abbrev pub label_named : List Label → List ℕ → Option Label
label_named given word = find (λ label. bytes_eq (label_word label) word) given

-- the given labels with these words, where each is the word of one
abbrev pub labels_named : List Label → List (List ℕ) → Option (List Label)
labels_named given [] = Some []
labels_named given (word ∷ words) = option_and_then (λ label. option_map (λ labels. label ∷ labels) (labels_named given words)) (label_named given word)

-- the given labels that a text of words with commas between them names
abbrev pub labels_in : List Label → List ℕ → Option (List Label)
labels_in given text = labels_named given (slice_split (λ byte. byte == 44) text)
