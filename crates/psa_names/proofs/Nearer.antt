-- The nearest of the names so far.
use Rattle.std.proofs.Common.{All, Contains, List, None, Option, Some, [], ap, arith, get_or, length, map, nat_eq, refl, subst, sym, take, ℕ, ◌++◌, ◌+◌, ◌/◌, ◌<◌, ◌∙◌, ◌∷◌, ◌≡◌, ◌≤◌}
use Rattle.std.proofs.lemmas.List.Elements.{All-push, All-weaker, Contains-append_left, Contains-push}
use Rattle.std.proofs.lemmas.List.{map-append, map_more}
use Rattle.std.specs.{Char.to_ascii_uppercase, Option.MatchOption}
use Rattle.strsim.specs.Edits.{levenshtein_row}
use Rattle.psa_names.specs.{Near.IsNear, Near.letters_changed, Near.name_texts, Rows.name_row, declared.names.Name.Name}

-- the least number of changes, and the name that it is for
pub record IsNearSoFar (names : List (List ℕ)) (text : List ℕ) (least : ℕ) (near : Option (List ℕ)) : Type 0 where
  pub named : MatchOption near (least ≡ length text / 2 + 1) (λ name. (least ≡ letters_changed text name) × Contains names name × (least ≤ length text / 2))
  pub most : least ≤ length text / 2 + 1
  pub least_of : All (λ other. least ≤ letters_changed text other) names

named_more : (names : List (List ℕ)) (text name : List ℕ) (least : ℕ) (near : Option (List ℕ)) →
    MatchOption near (least ≡ length text / 2 + 1) (λ name. (least ≡ letters_changed text name) × Contains names name × (least ≤ length text / 2)) →
    MatchOption near (least ≡ length text / 2 + 1) (λ other. (least ≡ letters_changed text other) × Contains (names ++ (name ∷ [])) other × (least ≤ length text / 2))
named_more names text name least None h = h
named_more names text name least (Some other) h = (h.0, Contains-append_left names (name ∷ []) other h.1, h.2)

-- a name that isn't nearer
pub no_nearer : (names : List (List ℕ)) (text name : List ℕ) (least : ℕ) (near : Option (List ℕ)) → least ≤ letters_changed text name →
    IsNearSoFar names text least near → IsNearSoFar (names ++ (name ∷ [])) text least near
no_nearer names text name least near h so = record {
  named = named_more names text name least near so.named;
  most = so.most;
  least_of = All-push (λ other. least ≤ letters_changed text other) names name so.least_of h;
}

-- a nearer one
pub nearer : (names : List (List ℕ)) (text name : List ℕ) (least : ℕ) (near : Option (List ℕ)) → letters_changed text name < least →
    IsNearSoFar names text least near → IsNearSoFar (names ++ (name ∷ [])) text (letters_changed text name) (Some name)
nearer names text name least near h so = record {
  named = (refl, Contains-push names name, omega (arith, so.most));
  most = omega (arith, so.most);
  least_of = All-push (λ other. letters_changed text name ≤ letters_changed text other) names name
      (All-weaker (λ other. least ≤ letters_changed text other) (λ other. letters_changed text name ≤ letters_changed text other) (λ other k. omega arith) names so.least_of) (omega arith);
}

pub nearest_all : (names : List (List ℕ)) (text : List ℕ) (least : ℕ) (near : Option (List ℕ)) → IsNearSoFar names text least near → IsNear names text near
nearest_all names text least None so = All-weaker (λ other. least ≤ letters_changed text other) (λ other. length text / 2 < letters_changed text other) (λ other k. omega (arith, so.named)) names so.least_of
nearest_all names text least (Some name) so = record {
  one = so.named.1;
  near = omega (arith, so.named.0, so.named.2);
  nearest = All-weaker (λ other. least ≤ letters_changed text other) (λ other. letters_changed text name ≤ letters_changed text other) (λ other k. omega (arith, so.named.0)) names so.least_of;
}

-- ---- along the program's table

texts_more : (names : List Name) (i : ℕ) (d : Name) → i < length names →
    name_texts (map name_row (take (i + 1) names)) ≡ name_texts (map name_row (take i names)) ++ ((get_or names i d).text.now ∷ [])
texts_more names i d h = ap name_texts (map_more name_row names i d h) ∙ map-append (λ (r : ℕ × List ℕ). r.1) (map name_row (take i names)) (name_row (get_or names i d) ∷ [])

pub measured : (text capitals name : List ℕ) (n : ℕ) → capitals ≡ map to_ascii_uppercase text → n ≡ levenshtein_row nat_eq capitals name (length name) → n ≡ letters_changed text name
unfolding letters_changed
measured text capitals name n e is = is ∙ ap (λ c. levenshtein_row nat_eq c name (length name)) e

pub step_nearer : (names : List Name) (i : ℕ) (d : Name) (text : List ℕ) (n least next : ℕ) (near taken : Option (List ℕ)) → i < length names →
    n ≡ letters_changed text (get_or names i d).text.now → n < least → next ≡ n → taken ≡ Some (get_or names i d).text.now →
    IsNearSoFar (name_texts (map name_row (take i names))) text least near → IsNearSoFar (name_texts (map name_row (take (i + 1) names))) text next taken
step_nearer names i d text n least next near taken h is low e f so =
    let name = (get_or names i d).text.now in
    let less : letters_changed text name < least = subst (λ m. m < least) is low in
    let done = nearer (name_texts (map name_row (take i names))) text name least near less so in
    subst (λ l. IsNearSoFar l text next taken) (sym (texts_more names i d h))
    (subst (λ o. IsNearSoFar (name_texts (map name_row (take i names)) ++ (name ∷ [])) text next o) (sym f)
    (subst (λ m. IsNearSoFar (name_texts (map name_row (take i names)) ++ (name ∷ [])) text m (Some name)) (sym (e ∙ is)) done))

pub step_no_nearer : (names : List Name) (i : ℕ) (d : Name) (text : List ℕ) (n least next : ℕ) (near taken : Option (List ℕ)) → i < length names →
    n ≡ letters_changed text (get_or names i d).text.now → least ≤ n → next ≡ least → taken ≡ near →
    IsNearSoFar (name_texts (map name_row (take i names))) text least near → IsNearSoFar (name_texts (map name_row (take (i + 1) names))) text next taken
step_no_nearer names i d text n least next near taken h is high e f so =
    let name = (get_or names i d).text.now in
    let more : least ≤ letters_changed text name = subst (λ m. least ≤ m) is high in
    let done = no_nearer (name_texts (map name_row (take i names))) text name least near more so in
    subst (λ l. IsNearSoFar l text next taken) (sym (texts_more names i d h))
    (subst (λ o. IsNearSoFar (name_texts (map name_row (take i names)) ++ (name ∷ [])) text next o) (sym f)
    (subst (λ m. IsNearSoFar (name_texts (map name_row (take i names)) ++ (name ∷ [])) text m near) (sym e) done))
