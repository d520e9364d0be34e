-- What is found in a table of the program is what is found in its rows.
use Rattle.std.proofs.Common.{Bool, List, None, Option, Some, [], ap, cond, false, find, map, nat_eq, arith, nat_lt, refl, subst, sym, true, ℕ, ◌<◌, ◌^◌, ◌||◌, ◌∙◌, ◌∷◌, ◌≡◌}
use Rattle.std.proofs.{lemmas.Bool.and_parts, lemmas.Bool.ltb-true, lemmas.Option.none-some, lemmas.Option.same_Some}
use Rattle.std.specs.{List.list_all, List.list_any, Option.is_some, Option.option_map, Str.str_eq_ignore_ascii_case}
use Rattle.psa_names.specs.{Names.name_of, Names.number_named, Rows.are_short, Rows.name_row, Tables.NameTable, declared.names.Name.Name}

found_or : (b : Bool) (name : Name) (rest : Option Name) → option_map name_row (cond b (Some name) rest) ≡ cond b (Some (name_row name)) (option_map name_row rest)
found_or true name rest = refl
found_or false name rest = refl

pub found_row : (p : ℕ × List ℕ → Bool) (names : List Name) → option_map name_row (find (λ n. p (name_row n)) names) ≡ find p (map name_row names)
found_row p [] = refl
found_row p (n ∷ ns) = found_or (p (name_row n)) n (find (λ n. p (name_row n)) ns) ∙ ap (cond (p (name_row n)) (Some (name_row n))) (found_row p ns)

first_of_row : (o : Option Name) → option_map (λ (n : Name). n.number) o ≡ option_map (λ (r : ℕ × List ℕ). r.0) (option_map name_row o)
first_of_row None = refl
first_of_row (Some n) = refl

second_of_row : (o : Option Name) → option_map (λ (n : Name). n.text.now) o ≡ option_map (λ (r : ℕ × List ℕ). r.1) (option_map name_row o)
second_of_row None = refl
second_of_row (Some n) = refl

pub name_found : (n : ℕ) (names : List Name) → option_map (λ (m : Name). m.text.now) (find (λ m. nat_eq m.number n) names) ≡ name_of (map name_row names) n
name_found n names = second_of_row _ ∙ ap (option_map (λ (r : ℕ × List ℕ). r.1)) (found_row (λ r. nat_eq r.0 n) names)

pub number_found : (text : List ℕ) (names : List Name) →
    option_map (λ (m : Name). m.number) (find (λ m. str_eq_ignore_ascii_case m.text.now text) names) ≡ number_named (map name_row names) text
number_found text names = first_of_row _ ∙ ap (option_map (λ (r : ℕ × List ℕ). r.0)) (found_row (λ r. str_eq_ignore_ascii_case r.1 text) names)

found_here : {X : Type 0} (p q : X → Bool) (y : X) (ys : List X) (x : X) (b : Bool) → p y ≡ b → q y ≡ true →
    (find p ys ≡ Some x → (p x ≡ true) × (q x ≡ true)) → cond b (Some y) (find p ys) ≡ Some x → (p x ≡ true) × (q x ≡ true)
found_here p q y ys x true e h later is = subst (λ z. (p z ≡ true) × (q z ≡ true)) (same_Some y x is) (e, h)
found_here p q y ys x false e h later is = later is

-- what is found passes the test, and what holds of all holds of it
pub find_facts : {X : Type 0} (p q : X → Bool) (xs : List X) (x : X) → list_all q xs ≡ true → find p xs ≡ Some x → (p x ≡ true) × (q x ≡ true)
find_facts p q [] x all is = absurd (none-some x is)
find_facts p q (y ∷ ys) x all is =
    let parts = and_parts (q y) (list_all q ys) all in
    found_here p q y ys x (p y) refl parts.0 (find_facts p q ys x parts.1) is

short_found : (names : NameTable) (n : ℕ) (p : ℕ × List ℕ → Bool) (o : Option (ℕ × List ℕ)) → are_short names ≡ true → find p names ≡ o →
    Some n ≡ option_map (λ (r : ℕ × List ℕ). r.0) o → n < 2 ^ 16
short_found names n p None all e is = absurd (none-some n (sym is))
short_found names n p (Some r) all e is =
    let same : n ≡ r.0 = same_Some n r.0 is in
    let low : r.0 < 2 ^ 16 = ltb-true r.0 (2 ^ 16) (find_facts p (λ r. nat_lt r.0 (2 ^ 16)) names r all e).1 in
    omega arith

pub named_short : (text : List ℕ) (names : NameTable) (n : ℕ) → are_short names ≡ true → Some n ≡ number_named names text → n < 2 ^ 16
named_short text names n all is = short_found names n _ _ all refl is

some_found : (n : ℕ) (r : ℕ × List ℕ) (rs : NameTable) (b : Bool) → is_some (name_of rs n) ≡ list_any (λ k. nat_eq k n) (map (λ (r : ℕ × List ℕ). r.0) rs) →
    is_some (option_map (λ (r : ℕ × List ℕ). r.1) (cond b (Some r) (find (λ r. nat_eq r.0 n) rs))) ≡ (b || list_any (λ k. nat_eq k n) (map (λ (r : ℕ × List ℕ). r.0) rs))
some_found n r rs true h = refl
some_found n r rs false h = h

-- a number has a name just where it is a table's
pub is_found : (n : ℕ) (names : NameTable) → is_some (name_of names n) ≡ list_any (λ k. nat_eq k n) (map (λ (r : ℕ × List ℕ). r.0) names)
is_found n [] = refl
is_found n (r ∷ rs) = some_found n r rs (nat_eq r.0 n) (is_found n rs)
