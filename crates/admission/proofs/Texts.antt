-- The first word of a text, and the others.
use Rattle.admission.proofs.Common.{Bool, Label, List, None, Option, Some, [], ap, append_assoc, label_named, labels_in, labels_named, length, refl, subst, sym, ℕ, ◌++◌, ◌<◌, ◌==◌, ◌∙◌, ◌∷◌, ◌≡◌}
use Rattle.std.specs.{Option.option_map, Option.option_and_then, List.position_or_len, List.before_first, List.after_first}
use Rattle.std.proofs.{lemmas.List.Splits.slice_split_first, lemmas.List.Splits.slice_split_none, lemmas.List.Sums.fails_before_first}

abbrev is_comma : ℕ → Bool
is_comma byte = byte == 44

abbrev pub behind : List Label → Option (List Label) → Option (List Label)
behind labels more = option_map (λ others. labels ++ others) more

abbrev pub first_of : Option Label → Option (List Label) → Option (List Label)
first_of word more = option_and_then (λ label. option_map (λ labels. label ∷ labels) more) word

pub first_word : (given : List Label) (text word more : List ℕ) → position_or_len is_comma text < length text → word ≡ before_first is_comma text → more ≡ after_first is_comma text →
    labels_in given text ≡ first_of (label_named given word) (labels_in given more)
first_word given text word more within w m =
    ap (labels_named given) (slice_split_first is_comma text 0 within)
    ∙ ap (λ t. first_of (label_named given t) (labels_in given (after_first is_comma text))) (sym w)
    ∙ ap (λ t. first_of (label_named given word) (labels_in given t)) (sym m)

pub last_word : (given : List Label) (text : List ℕ) → position_or_len is_comma text ≡ length text → labels_in given text ≡ first_of (label_named given text) (Some [])
last_word given text e =
    ap (labels_named given) (slice_split_none is_comma text (λ k d h. fails_before_first is_comma text k d (subst (λ n. k < n) (sym e) h)))

append_one : (done : List Label) (label : Label) (more : Option (List Label)) →
    behind done (option_map (λ labels. label ∷ labels) more) ≡ behind (done ++ label ∷ []) more
append_one done label None = refl
append_one done label (Some labels) = ap Some (sym (append_assoc done (label ∷ []) labels))

-- a label that is read goes behind those before it
pub read_on : (all text more : Option (List Label)) (done : List Label) (word : Option Label) (label : Label) →
    all ≡ behind done text → text ≡ first_of word more → word ≡ Some label → all ≡ behind (done ++ label ∷ []) more
read_on all text more done word label e f g =
    e ∙ ap (behind done) f ∙ ap (λ w. behind done (first_of w more)) g ∙ append_one done label more

-- a word that is no label's ends it
pub read_none : (all text more : Option (List Label)) (done : List Label) (word : Option Label) →
    all ≡ behind done text → text ≡ first_of word more → word ≡ None → all ≡ None
read_none all text more done word e f g = e ∙ ap (behind done) f ∙ ap (λ w. behind done (first_of w more)) g
