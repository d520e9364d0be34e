-- Histories: turns that have ended, each with an entry or without, and the entries in them.
use Rattle.std.specs.Prelude.{◌≡◌, ℕ, ◌==◌, Bool, true, false, List, [], ◌∷◌, ◌++◌, Option, Some, None}

module _ {E : Type 0} where
  -- the entries of the turns that had one
  abbrev pub entries_of : List (Option E) → List E
  entries_of [] = []
  entries_of (None ∷ turns) = entries_of turns
  entries_of (Some e ∷ turns) = e ∷ entries_of turns

  abbrev pub choose : Bool → E → List E → List E
  choose true e es = e ∷ es
  choose false e es = es

  -- the entries of the pass n
  abbrev pub calls_by : (E → ℕ) → ℕ → List E → List E
  calls_by by n [] = []
  calls_by by n (e ∷ es) = choose (by e == n) e (calls_by by n es)

  abbrev pub option_list : Option E → List E
  option_list None = []
  option_list (Some e) = e ∷ []

  -- the place n of an entry, where there is one
  abbrev pub place_of : Option E → ℕ → Option ℕ
  place_of None n = None
  place_of (Some e) n = Some n

abbrev pub StartsWith : {A : Type 0} → List A → List A → Type 0
StartsWith {A} whole part = (rest : List A) × (whole ≡ part ++ rest)
