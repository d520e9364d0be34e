-- The rows of the program are those of the grammar.
use Rattle.std.proofs.Common.{Bool, List, Option, Some, [], ap, cond, false, find, map, refl, true, ℕ, ◌∙◌, ◌∷◌, ◌≡◌}
use Rattle.script_lang.proofs.Common.{bytes_eq, rows, shape}
use Rattle.std.specs.Option.{option_map}
use Rattle.script_lang.specs.declared.commands.Row.{Row}

found_or : (b : Bool) (row : Row) (rest : Option Row) → option_map shape (cond b (Some row) rest) ≡ cond b (Some (shape row)) (option_map shape rest)
found_or true row rest = refl
found_or false row rest = refl

found_in : (word : List ℕ) (rs : List Row) → option_map shape (find (λ r. bytes_eq r.word.now word) rs) ≡ find (λ r. bytes_eq r.word word) (map shape rs)
found_in word [] = refl
found_in word (r ∷ rs) =
    found_or (bytes_eq r.word.now word) r (find (λ r. bytes_eq r.word.now word) rs) ∙ ap (cond (bytes_eq r.word.now word) (Some (shape r))) (found_in word rs)

pub found_shape : (word : List ℕ) (rs : List Row) → map shape rs ≡ rows → option_map shape (find (λ r. bytes_eq r.word.now word) rs) ≡ find (λ r. bytes_eq r.word word) rows
found_shape word rs e = found_in word rs ∙ ap (find (λ r. bytes_eq r.word word)) e
