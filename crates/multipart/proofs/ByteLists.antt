-- Bytes compared one by one.

use Rattle.std.proofs.{Common.Bool, Common.List, Common.[], Common.ap, Common.arith, Common.bytes_eq, Common.eqb, Common.length, Common.refl, Common.sym, Common.ℕ, Common.◌&&◌, Common.◌++◌, Common.◌∙◌, Common.◌∷◌, Common.◌≡◌, Math.Bool.and_assoc, Math.Bool.and-true}

pub bytes_eq_append : (xs ys front back : List ℕ) → length xs ≡ length ys → bytes_eq (xs ++ front) (ys ++ back) ≡ bytes_eq xs ys && bytes_eq front back
bytes_eq_append [] [] front back e = refl
bytes_eq_append (a ∷ rest) (b ∷ more) front back e = ap (λ (t : Bool). eqb a b && t) (bytes_eq_append rest more front back (omega arith)) ∙ sym (and_assoc (eqb a b) (bytes_eq rest more) (bytes_eq front back))
bytes_eq_append xs ys front back e = absurd (omega arith)

pub bytes_eq_push : (xs ys : List ℕ) (x y : ℕ) → length xs ≡ length ys → bytes_eq (xs ++ x ∷ []) (ys ++ y ∷ []) ≡ bytes_eq xs ys && eqb x y
bytes_eq_push xs ys x y e = bytes_eq_append xs ys (x ∷ []) (y ∷ []) e ∙ ap (λ (t : Bool). bytes_eq xs ys && t) (and-true (eqb x y))
