-- Whether a text is labels, word by word.

use Rattle.command_words.proofs.Common.{Label, first_of, Bool, List, None, Option, Some, [], ap, false, is_some, not, refl, sym, true, ◌∙◌, ◌≡◌}

both : (word : Option Label) (more : Option (List Label)) → is_some word ≡ true → is_some (first_of word more) ≡ is_some more
both None more e = absurd (cc)
both (Some label) None e = refl
both (Some label) (Some labels) e = refl

neither : (word : Option Label) (more : Option (List Label)) → is_some word ≡ false → is_some (first_of word more) ≡ false
neither None more e = refl
neither (Some label) more e = absurd (cc)

-- a first word that is a label leaves it to the others
pub is_label : (all : Bool) (text more : Option (List Label)) (word found : Option Label) (none : Bool) →
    all ≡ is_some text → text ≡ first_of word more → found ≡ word → is_some found ≡ not none → none ≡ false → all ≡ is_some more
is_label all text more word found none e f g h k = e ∙ ap is_some f ∙ both word more (ap is_some (sym g) ∙ h ∙ ap not k)

-- one that is none decides it
pub is_no_label : (all : Bool) (text more : Option (List Label)) (word found : Option Label) (none : Bool) →
    all ≡ is_some text → text ≡ first_of word more → found ≡ word → is_some found ≡ not none → none ≡ true → all ≡ false
is_no_label all text more word found none e f g h k = e ∙ ap is_some f ∙ neither word more (ap is_some (sym g) ∙ h ∙ ap not k)

last : (word : Option Label) → is_some (first_of word (Some [])) ≡ is_some word
last None = refl
last (Some label) = refl

-- the last word
pub at_last : (all some : Bool) (text : Option (List Label)) (word found : Option Label) →
    all ≡ is_some text → text ≡ first_of word (Some []) → found ≡ word → some ≡ is_some found → some ≡ all
at_last all some text word found e f g h = h ∙ ap is_some g ∙ sym (e ∙ ap is_some f ∙ last word)
