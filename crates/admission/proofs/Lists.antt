-- What is picked by a value of each element.

use Rattle.admission.proofs.Common.{Bool, List, [], ap, cond, false, filter, map, refl, true, ◌∙◌, ◌∷◌, ◌≡◌}

kept : {X Y : Type 0} (f : X → Y) (b : Bool) (x : X) (xs : List X) → map f (cond b (x ∷ xs) xs) ≡ cond b (f x ∷ map f xs) (map f xs)
kept f true x xs = refl
kept f false x xs = refl

pub map-filter : {X Y : Type 0} (f : X → Y) (p : Y → Bool) (xs : List X) → map f (filter (λ x. p (f x)) xs) ≡ filter p (map f xs)
map-filter f p [] = refl
map-filter f p (x ∷ xs) = kept f (p (f x)) x _ ∙ ap (λ ys. cond (p (f x)) (f x ∷ ys) ys) (map-filter f p xs)
