-- Pieces that are written one after another.
use Rattle.std.proofs.Common.{List, None, Option, Some, [], ap, append_assoc, drop, flat_map, get_or, length, sym, take, ℕ, ◌++◌, ◌+◌, ◌<◌, ◌∙◌, ◌∷◌, ◌≡◌}
use Rattle.psa_command.proofs.Common.{Appends}
use Rattle.std.proofs.{Math.Seq.take-append-add, Math.Seq.take-append_seam, lemmas.Grind.flat_map-append, lemmas.List.append-nil, lemmas.List.drop_more, lemmas.List.take-append-drop, lemmas.List.take_more}

pub appends_both : (old mid new : Option (List ℕ)) (front piece : List ℕ) → Appends old mid front → Appends mid new piece → Appends old new (front ++ piece)
appends_both None mid new front piece a b = tt
appends_both (Some x) None new front piece a b = absurd a
appends_both (Some x) (Some y) None front piece a b = absurd b
appends_both (Some x) (Some y) (Some z) front piece a b = b ∙ (ap (λ t. t ++ piece) a ∙ append_assoc x front piece)

-- the front of a piece among others
pub part_of : (front piece rest : List ℕ) (n : ℕ) → take (length front + length (take n piece)) (front ++ (piece ++ rest)) ≡ front ++ take n piece
part_of front piece rest n =
    take-append-add front (piece ++ rest) (length (take n piece))
    ∙ ap (λ t. front ++ t) (ap (λ t. take (length (take n piece)) t) (ap (λ t. t ++ rest) (sym (take-append-drop n piece)) ∙ append_assoc (take n piece) (drop n piece) rest)
    ∙ take-append_seam (take n piece) (drop n piece ++ rest))

-- the piece of one element among those of a list
pub flat_split : {X : Type 0} (f : X → List ℕ) (xs : List X) (i : ℕ) (d : X) → i < length xs → flat_map f xs ≡ flat_map f (take i xs) ++ (f (get_or xs i d) ++ flat_map f (drop (i + 1) xs))
flat_split f xs i d lt =
    ap (flat_map f) (sym (take-append-drop i xs))
    ∙ (flat_map-append f (take i xs) (drop i xs) ∙ ap (λ l. flat_map f (take i xs) ++ flat_map f l) (drop_more xs i d lt))

pub flat_more : {X : Type 0} (f : X → List ℕ) (xs : List X) (i : ℕ) (d : X) → i < length xs → flat_map f (take i xs) ++ f (get_or xs i d) ≡ flat_map f (take (i + 1) xs)
flat_more f xs i d lt =
    ap (λ t. flat_map f (take i xs) ++ t) (sym (append-nil (f (get_or xs i d))))
    ∙ (sym (flat_map-append f (take i xs) (get_or xs i d ∷ [])) ∙ ap (flat_map f) (sym (take_more xs i d lt)))
