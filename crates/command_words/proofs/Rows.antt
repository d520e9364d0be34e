-- The rows that `clap` keeps of a run's options, and the values that these are.
use Rattle.std.proofs.Common.{Bool, List, None, Option, Some, [], ap, append-nil, bytes_eq, cond, false, find, is_some, option_and_then, option_map, refl, slice_get, subst, sym, true, ℕ, ◌++◌, ◌||◌, ◌∙◌, ◌∷◌, ◌≡◌}
use Rattle.command_words.proofs.Common.{Row, Rule, Rules, RunOption, Seed, Texts, Workers, all_of, at_row, filled, find-append, has_row, is_of, more_values, none-some, option_id, option_or, option_rule, texts_in, used, without}
use Rattle.clap.specs.{Walk.first_of, declared.builder.value_parser.Reading.TheVariants.AsWritten, declared.parser.matches.ValueSource.TheVariants.CommandLine}
use Rattle.command_words.proofs.Settings.{text_at, put, put_at, same_option, or_none, unmapped}

-- an option as `clap` builds it
abbrev pub option_built : RunOption → Rule
option_built option = filled (option_rule (option_id option))

abbrev is_row : List ℕ → Row → Bool
is_row id row = bytes_eq row.id id

abbrev one : List ℕ → List (List ℕ)
one value = value ∷ []

-- each option has the row of its value, where it has one
pub record HasValues (texts : Texts) (rows : List Row) : Type 0 where
  pub value : (option : RunOption) → all_of (option_id option) rows ≡ option_map (λ value. value ∷ []) (text_at texts option)

has_is : (id : List ℕ) (rows : List Row) → has_row id rows ≡ is_some (find (is_row id) rows)
has_is id [] = refl
has_is id (row ∷ rows) = go (is_row id row) (has_is id rows)
  where
    go : (b : Bool) → has_row id rows ≡ is_some (find (is_row id) rows) → (b || has_row id rows) ≡ is_some (cond b (Some row) (find (is_row id) rows))
    go true e = refl
    go false e = e

at_new : (id : List ℕ) (change : Row → List Row) (missing rows : List Row) → find (is_row id) rows ≡ None → at_row id change missing rows ≡ rows ++ missing
at_new id change missing [] e = refl
at_new id change missing (row ∷ rows) e = go (is_row id row) e (λ f. at_new id change missing rows f)
  where
    go : (b : Bool) → cond b (Some row) (find (is_row id) rows) ≡ None → (find (is_row id) rows ≡ None → at_row id change missing rows ≡ rows ++ missing) →
        cond b (change row ++ rows) (row ∷ at_row id change missing rows) ≡ row ∷ (rows ++ missing)
    go true f more = absurd (none-some row (sym f))
    go false f more = ap (λ rest. row ∷ rest) (more f)

abbrev row_of : RunOption → List ℕ → Row
row_of option value = record { id = option_id option; values = one value; count = None; source = Some CommandLine; reading = AsWritten }

row_missing : (option : RunOption) (texts : Texts) (rows : List Row) → HasValues texts rows → text_at texts option ≡ None → find (is_row (option_id option)) rows ≡ None
row_missing option texts rows has new = unmapped (λ row. row.values) _ (has.value option ∙ ap (option_map one) new)

-- an option that has no value yet has no row
pub no_row : (option : RunOption) (texts : Texts) (rows : List Row) → HasValues texts rows → text_at texts option ≡ None → has_row (option_id option) rows ≡ false
no_row option texts rows has new = has_is (option_id option) rows ∙ ap is_some (row_missing option texts rows has new)

used_new : (option : RunOption) (value : List ℕ) (rows : List Row) → find (is_row (option_id option)) rows ≡ None → used (option_built option) (value ∷ []) rows ≡ rows ++ row_of option value ∷ []
used_new option value rows e =
    let kept : without (option_id option) rows ≡ rows = at_new (option_id option) (λ _. []) [] rows e ∙ append-nil rows in
    rw kept (at_new (option_id option) (more_values CommandLine (value ∷ [])) (row_of option value ∷ []) rows e)

pub same_id : (option other : RunOption) (value : List ℕ) → bytes_eq (option_id option) (option_id other) ≡ is_of other (option, value)
same_id Workers Workers value = refl
same_id Seed Seed value = refl
same_id Rules Rules value = refl
same_id option other value = refl

-- an option's value joins the others
pub has_next : (texts : Texts) (rows : List Row) (option : RunOption) (value : List ℕ) → text_at texts option ≡ None → HasValues texts rows →
    HasValues (put texts option value) (used (option_built option) (value ∷ []) rows)
has_next texts rows option value new has = record { value = λ other. at other (is_of other (option, value)) refl }
  where
    missing : find (is_row (option_id option)) rows ≡ None
    missing = row_missing option texts rows has new

    found : (other : RunOption) → all_of (option_id other) (used (option_built option) (value ∷ []) rows)
        ≡ option_map (λ row. row.values) (option_or (find (is_row (option_id other)) rows) (cond (is_of other (option, value)) (Some (row_of option value)) None))
    found other =
        ap (all_of (option_id other)) (used_new option value rows missing)
        ∙ ap (option_map (λ row. row.values)) (find-append (is_row (option_id other)) rows (row_of option value ∷ []))
        ∙ ap (λ b. option_map (λ row. row.values) (option_or (find (is_row (option_id other)) rows) (cond b (Some (row_of option value)) None))) (same_id option other value)

    at : (other : RunOption) (b : Bool) → is_of other (option, value) ≡ b →
        all_of (option_id other) (used (option_built option) (value ∷ []) rows) ≡ option_map (λ v. v ∷ []) (text_at (put texts option value) other)
    at other true e =
        let same : option ≡ other = same_option option other value e in
        let none : find (is_row (option_id other)) rows ≡ None = subst (λ o. find (is_row (option_id o)) rows ≡ None) same missing in
        found other ∙ rw (none, put_at texts option other value, e) refl
    at other false e = found other ∙ rw (e, or_none (find (is_row (option_id other)) rows), put_at texts option other value, e) (has.value other)

first_is : (id : List ℕ) (rows : List Row) (text : Option (List ℕ)) → all_of id rows ≡ option_map (λ v. v ∷ []) text → first_of id rows ≡ text
first_is id rows text e = go (find (is_row id) rows) ∙ ap (option_and_then (λ values. slice_get values 0)) e ∙ back text
  where
    go : (o : Option Row) → option_and_then (λ row. slice_get row.values 0) o ≡ option_and_then (λ (values : List (List ℕ)). slice_get values 0) (option_map (λ row. row.values) o)
    go None = refl
    go (Some row) = refl

    back : (o : Option (List ℕ)) → option_and_then (λ (values : List (List ℕ)). slice_get values 0) (option_map (λ v. v ∷ []) o) ≡ o
    back None = refl
    back (Some v) = refl

-- the rows' texts are the values
pub texts_are_in : (texts : Texts) (rows : List Row) → HasValues texts rows → texts_in rows ≡ texts
texts_are_in texts rows has = λ i. record {
  workers = first_is (option_id Workers) rows texts.workers (has.value Workers) i;
  seed = first_is (option_id Seed) rows texts.seed (has.value Seed) i;
  rules = first_is (option_id Rules) rows texts.rules (has.value Rules) i;
}
