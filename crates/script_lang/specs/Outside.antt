-- Why a text is no script: the first line that is outside the grammar, and the first reason in it, from left
-- to right.
use Rattle.std.specs.Prelude.{ℕ, ◌≡◌, ◌≤◌, ◌<◌, ◌+◌, ◌⊎◌, true, false, List, [], ◌∷◌, ◌++◌, length, codes, None}
use Rattle.script_lang.specs.{Pieces.line_words, Pieces.text_lines, Shapes.Shape, Commands.IsRow, Fields.Fields, Fields.form_of, Fields.field_name, Fields.is_allowed, Fields.has_field, Fields.has_required, Lines.Places, Lines.Read, Lines.nothing_read, Lines.has_begun, Lines.no_words, declared.faults.Reason.Reason, declared.faults.ScriptFault.ScriptFault, declared.fields.Field.Field, declared.fixed.Fixed.Fixed}
use Rattle.script_lang.specs.{Grammar.IsForm, Grammar.IsField, Grammar.IsName, Grammar.IsKeyWord, Grammar.IsOneTo, Grammar.IsOwner, Grammar.IsFixed, Grammar.AreFixed, Grammar.AreSteps, declared.fields.FieldValue.FieldValue, declared.script.KeyWord.KeyWord, declared.commands.Kind.Kind}
use Rattle.script_lang.specs.declared.faults.Reason.TheVariants.{BadSession, UnknownCommand, MissingWord, BadHandle, BadName, BadKey, UnknownName, UnknownField, RepeatedField, BadValue, MissingField, LateOwner, BadOwner}
use Rattle.script_lang.specs.declared.faults.ScriptFault.TheVariants as faults
use Rattle.script_lang.specs.declared.commands.Kind.TheVariants as kind

-- a word that should be a fixed word of a kind; a bad key is none whatever names were given
abbrev pub IsBadFixed : Places → Kind → List ℕ → Reason → Type 0
IsBadFixed places kind.Name word r = (r ≡ BadName) × (IsName word → ⊥)
IsBadFixed places kind.Key word r =
    ((r ≡ BadKey) × ((given : Places) (key : KeyWord) → IsKeyWord given word key → ⊥))
    ⊎ ((r ≡ UnknownName) × ((name : List ℕ) × (word ≡ 36 ∷ name) × IsName name × (places name ≡ None)))
IsBadFixed places kind.Handle word r = (r ≡ BadHandle) × ((handle : ℕ) → IsOneTo 4 word handle → ⊥)

-- words of which the first should be fixed words of these kinds, after some
abbrev pub AreBadFixed : Places → List Kind → Fixed → List (List ℕ) → Reason → Type 0
AreBadFixed places [] fixed ws r = ⊥
AreBadFixed places (k ∷ ks) fixed [] r = r ≡ MissingWord
AreBadFixed places (k ∷ ks) fixed (w ∷ ws) r = IsBadFixed places k w r ⊎ ((next : Fixed) × IsFixed places k fixed w next × AreBadFixed places ks next ws r)

-- the value of a field of the row, after some fields
abbrev pub IsBadValue : Fields → Field → List ℕ → Reason → Type 0
IsBadValue done f text r =
    ((r ≡ RepeatedField) × (has_field done f ≡ true))
    ⊎ ((r ≡ BadValue) × (has_field done f ≡ false) × ((v : FieldValue) → IsForm (form_of f) text v → ⊥))

-- a further word: no `=`, or none of the row's fields before the first; or a field that is bad
abbrev pub IsBadField : Shape → Fields → List ℕ → Reason → Type 0
IsBadField row done word r =
    ((r ≡ UnknownField) × ((f : Field) (text : List ℕ) → word ≡ field_name f ++ 61 ∷ text → is_allowed row f ≡ false))
    ⊎ ((f : Field) × (text : List ℕ) × (word ≡ field_name f ++ 61 ∷ text) × (is_allowed row f ≡ true) × IsBadValue done f text r)

abbrev pub AreBadFields : Shape → Fields → List (List ℕ) → Reason → Type 0
AreBadFields row done [] r = (r ≡ MissingField) × (has_required row done ≡ false)
AreBadFields row done (w ∷ ws) r =
    IsBadField row done w r
    ⊎ ((f : Field × FieldValue) × IsField w f × (is_allowed row f.0 ≡ true) × (has_field done f.0 ≡ false) × AreBadFields row (done ++ f ∷ []) ws r)

-- fields that are bad after fixed words that are good
pub record AreBadAfter (places : Places) (row : Shape) (ws : List (List ℕ)) (r : Reason) : Type 0 where
  pub fixed : Fixed
  pub fixed_words : List (List ℕ)
  pub field_words : List (List ℕ)
  pub joined : ws ≡ fixed_words ++ field_words
  pub are_fixed : AreFixed places row.fixed no_words fixed_words fixed
  pub are_bad : AreBadFields row [] field_words r

-- the words after `owner` on a line of a session that has stated none and has no call
abbrev pub IsBadOwner : List (List ℕ) → Reason → Type 0
IsBadOwner [] r = r ≡ MissingWord
IsBadOwner (w ∷ ws) r =
    ((r ≡ BadOwner) × ((owner : ℕ) → IsOwner w owner → ⊥))
    ⊎ ((r ≡ UnknownField) × (1 ≤ length ws) × (owner : ℕ) × IsOwner w owner)

-- the words after a session
abbrev pub IsBadCommand : Read → ℕ → List (List ℕ) → Reason → Type 0
IsBadCommand read s [] r = r ≡ UnknownCommand
IsBadCommand read s (name ∷ ws) r =
    ((r ≡ UnknownCommand) × (name ≡ codes "owner" → ⊥) × ((row : Shape) → IsRow row → row.word ≡ name → ⊥))
    ⊎ ((name ≡ codes "owner") × (((r ≡ LateOwner) × (has_begun read s ≡ true)) ⊎ ((has_begun read s ≡ false) × IsBadOwner ws r)))
    ⊎ ((row : Shape) × IsRow row × (row.word ≡ name) × (AreBadFixed (read.places s) row.fixed no_words ws r ⊎ AreBadAfter (read.places s) row ws r))

-- the words of a line that is outside the grammar, after what was read
abbrev pub AreBadWords : Read → List (List ℕ) → Reason → Type 0
AreBadWords read [] r = ⊥
AreBadWords read (w ∷ ws) r = ((r ≡ BadSession) × ((s : ℕ) → IsOneTo 16 w s → ⊥)) ⊎ ((s : ℕ) × IsOneTo 16 w s × IsBadCommand read s ws r)

-- the first line that is outside: those before it are in the grammar, and lines are counted from 1
pub record IsFirstBad (text : List ℕ) (number : ℕ) (r : Reason) : Type 0 where
  pub before : List (List ℕ)
  pub line : List ℕ
  pub after : List (List ℕ)
  pub read : Read
  pub short : length text ≤ 4194304
  pub few : length (text_lines text) ≤ 20000
  pub joined : text_lines text ≡ before ++ line ∷ after
  pub place : number ≡ length before + 1
  pub steps : AreSteps nothing_read before read
  pub bad : AreBadWords read (line_words line) r

abbrev pub IsFault : List ℕ → ScriptFault → Type 0
IsFault text faults.TooLong = 4194304 < length text
IsFault text faults.TooManyLines = (length text ≤ 4194304) × (20000 < length (text_lines text))
IsFault text (faults.BadLine number r) = IsFirstBad text number r
IsFault text faults.Memory = ⊥
