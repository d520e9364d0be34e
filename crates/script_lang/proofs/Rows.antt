-- The fields of a line, one at a time.
use Rattle.std.proofs.Common.{List, Ok, Result, [], ap, subst, sym, ℕ, ◌++◌, ◌∙◌, ◌∷◌, ◌≡◌}
use Rattle.script_lang.proofs.Common.{Fails, Field, FieldValue, Fields, LineError, Reason, Shape, read_field, read_fields}
use Rattle.script_lang.specs.declared.faults.LineError.TheVariants as errors
use Rattle.script_lang.specs.Steps.{◌>>=◌}

-- a step that fails makes the whole fail
pub fails_first : {A B : Type 0} (e : LineError) (r : Result A Reason) (f : A → Result B Reason) → Fails e r → Fails e (r >>= f)
fails_first errors.Memory r f h = tt
fails_first (errors.Bad x) r f h = ap (λ s. s >>= f) h

pub fields_end : (row : Shape) (done : Fields) (words : List (List ℕ)) → words ≡ [] → read_fields row done words ≡ Ok done
unfolding read_fields
fields_end row done words e = ap (read_fields row done) e

pub fields_turn : (row : Shape) (done : Fields) (words : List (List ℕ)) (word : List ℕ) (rest : List (List ℕ)) (f : Field × FieldValue) →
    words ≡ word ∷ rest → read_field row done word ≡ Ok f → read_fields row done words ≡ read_fields row (done ++ f ∷ []) rest
unfolding read_fields
fields_turn row done words word rest f e h =
    ap (read_fields row done) e ∙ ap (λ r. r >>= (λ f. read_fields row (done ++ f ∷ []) rest)) h

pub fields_fail : (e : LineError) (row : Shape) (done : Fields) (words : List (List ℕ)) (word : List ℕ) (rest : List (List ℕ)) →
    words ≡ word ∷ rest → Fails e (read_field row done word) → Fails e (read_fields row done words)
unfolding read_fields
fields_fail e row done words word rest is h =
    subst (λ ws. Fails e (read_fields row done ws)) (sym is) (fails_first e (read_field row done word) (λ f. read_fields row (done ++ f ∷ []) rest) h)
