-- A field by its name.
use Rattle.std.proofs.Common.{List, Some, ap, refl, ℕ, ◌++◌, ◌∙◌, ◌∷◌, ◌≡◌}
use Rattle.script_lang.proofs.Common.{Field, cut_of, field_name, field_named}
use Rattle.script_lang.specs.declared.fields.Field.TheVariants as field

-- a field's name is cut before its `=`, and names that field alone
record IsNamed (f : Field) : Type 0 where
  cut : (text : List ℕ) → cut_of 61 (field_name f ++ 61 ∷ text) ≡ Some (field_name f, text)
  again : field_named (field_name f) ≡ Some f

is_named : (f : Field) → IsNamed f
is_named field.Type = record { cut = λ text. refl; again = refl }
is_named field.Usage = record { cut = λ text. refl; again = refl }
is_named field.Alg = record { cut = λ text. refl; again = refl }
is_named field.Data = record { cut = λ text. refl; again = refl }
is_named field.Life = record { cut = λ text. refl; again = refl }
is_named field.Id = record { cut = λ text. refl; again = refl }
is_named field.Bits = record { cut = λ text. refl; again = refl }
is_named field.Room = record { cut = λ text. refl; again = refl }
is_named field.Hash = record { cut = λ text. refl; again = refl }
is_named field.Mac = record { cut = λ text. refl; again = refl }
is_named field.Nonce = record { cut = λ text. refl; again = refl }
is_named field.Ad = record { cut = λ text. refl; again = refl }
is_named field.Iv = record { cut = λ text. refl; again = refl }
is_named field.Tag = record { cut = λ text. refl; again = refl }
is_named field.AdLength = record { cut = λ text. refl; again = refl }
is_named field.PlainLength = record { cut = λ text. refl; again = refl }
is_named field.Capacity = record { cut = λ text. refl; again = refl }
is_named field.Value = record { cut = λ text. refl; again = refl }
is_named field.Length = record { cut = λ text. refl; again = refl }
is_named field.Step = record { cut = λ text. refl; again = refl }
is_named field.Alg2 = record { cut = λ text. refl; again = refl }

pub name_cut : (w : List ℕ) (f : Field) (text : List ℕ) → w ≡ field_name f ++ 61 ∷ text → cut_of 61 w ≡ Some (field_name f, text)
name_cut w f text e = ap (cut_of 61) e ∙ (is_named f).cut text

pub named_again : (f : Field) → field_named (field_name f) ≡ Some f
named_again f = (is_named f).again
