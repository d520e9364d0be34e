-- The lines of a text, one at a time.

use Rattle.std.proofs.Common.{Bool, List, [], ap, cond, false, refl, sym, true, ℕ, ◌==◌, ◌∙◌, ◌∷◌, ◌≡◌}
use Rattle.script_lang.proofs.Common.{ended, onto_first, pieces, text_lines, without_return}

abbrev IsSome : List (List ℕ) → Type 0
IsSome ps = (p : List ℕ) × (rest : List (List ℕ)) × (ps ≡ p ∷ rest)

onto_is_some : (b : ℕ) (ps : List (List ℕ)) → IsSome (onto_first b ps)
onto_is_some b [] = (b ∷ [], [], refl)
onto_is_some b (p ∷ ps) = (b ∷ p, ps, refl)

turn_is_some : (t : Bool) (s b : ℕ) (bs : List ℕ) → IsSome (cond t ([] ∷ pieces s bs) (onto_first b (pieces s bs)))
turn_is_some true s b bs = ([], pieces s bs, refl)
turn_is_some false s b bs = onto_is_some b (pieces s bs)

pieces_are_some : (s : ℕ) (bs : List ℕ) → IsSome (pieces s bs)
pieces_are_some s [] = ([], [], refl)
pieces_are_some s (b ∷ bs) = turn_is_some (b == s) s b bs

pub line_cut : (text line rest : List ℕ) → pieces 10 text ≡ line ∷ pieces 10 rest → text_lines text ≡ without_return line ∷ text_lines rest
line_cut text line rest e =
    let h = pieces_are_some 10 rest in
    ap ended (e ∙ ap (λ (ps : List (List ℕ)). line ∷ ps) h.2) ∙ ap (λ (ps : List (List ℕ)). without_return line ∷ ended ps) (sym h.2)
