-- What a crate above needs of a turn and of passes that meet.
use Rattle.turn_history.proofs.Common.{Bool, Holding, List, Option, Some, StartsWith, [], ap, arith, calls_by, choose, entries_of, eqb, eqb-true, false, held_by, length, length-append, longer, refl, set-get_or, slice_get, suc, sym, true, with_held_by, ℕ, ⊎_elim, ◌++◌, ◌+◌, ◌-◌, ◌∙◌, ◌∷◌, ◌≡◌, ◌≢◌, ◌≤◌, ◌⊎◌}
use Rattle.turn_history.proofs.Lists.{entries-append, begins_itself, longer_by, two_beginnings}

-- nothing changes where a pass keeps what it has
pub keeps_own : (holdings : List Holding) (n : ℕ) (own : Holding) → held_by holdings n ≡ own → with_held_by holdings n own ≡ holdings
keeps_own holdings n own is = ap (λ o. with_held_by holdings n o) (sym is) ∙ set-get_or holdings (n - 1) []

module _ {E : Type 0} where
  last_at : (es : List E) (e : E) → slice_get (es ++ e ∷ []) (length es) ≡ Some e
  last_at [] e = refl
  last_at (x ∷ xs) e = last_at xs e

  -- an entry stands at its place
  pub placed : (seen : List (Option E)) (e : E) → slice_get (entries_of (seen ++ Some e ∷ [])) (length (entries_of seen)) ≡ Some e
  placed seen e = ap (λ l. slice_get l (length (entries_of seen))) (entries-append seen (Some e ∷ [])) ∙ last_at (entries_of seen) e

  -- a longer history has no fewer entries
  pub no_fewer : (whole part : List (Option E)) → StartsWith whole part → length (entries_of part) ≤ length (entries_of whole)
  no_fewer whole part s = let a = ap (λ l. length (entries_of l)) s.1 in let b = ap (λ (l : List E). length l) (entries-append part s.0) in omega (arith, length-append (entries_of part) (entries_of s.0))

  -- the longer of two histories, one of which begins the other, begins with both
  pub longer_left : (a b : List (Option E)) → StartsWith a b ⊎ StartsWith b a → StartsWith (longer a b) a
  longer_left a b order = longer_by (λ l. StartsWith l a) a b (λ _. begins_itself a)
      (λ lt. ⊎_elim (λ (s : StartsWith a b). let n = ap (λ (l : List (Option E)). length l) s.1 in absurd (omega (arith, length-append b s.0))) (λ s. s) order)

  same_length : (whole part : List (Option E)) → StartsWith whole part → length whole ≤ length part → StartsWith part whole
  same_length whole part s le = two_beginnings whole whole part (begins_itself whole) s le

  pub longer_right : (a b : List (Option E)) → StartsWith a b ⊎ StartsWith b a → StartsWith (longer a b) b
  longer_right a b order = longer_by (λ l. StartsWith l b) a b (λ le. ⊎_elim (λ s. s) (λ (s : StartsWith b a). same_length b a s le) order) (λ _. begins_itself b)

  module _ (by : E → ℕ) where
    -- the calls of two passes are different entries
    pub apart : (n m : ℕ) (es : List E) → n ≢ m → length (calls_by by n es) + length (calls_by by m es) ≤ length es
    apart n m [] ne = omega arith
    apart n m (e ∷ es) ne = let r = apart n m es ne in
        chosen (eqb (by e) n) (eqb (by e) m) e (calls_by by n es) (calls_by by m es) (length es) (λ a b. ne (sym (eqb-true (by e) n a) ∙ eqb-true (by e) m b)) r
      where
        chosen : (a b : Bool) (e : E) (xs ys : List E) (l : ℕ) → (a ≡ true → b ≡ true → ⊥) → length xs + length ys ≤ l → length (choose a e xs) + length (choose b e ys) ≤ suc l
        chosen true true e xs ys l not le = absurd (not refl refl)
        chosen true false e xs ys l not le = omega arith
        chosen false true e xs ys l not le = omega arith
        chosen false false e xs ys l not le = omega arith
