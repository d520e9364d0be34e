-- The grammar of scripts: which calls and owners a text says, and why a text says none. Numbers are stated by their digits'
-- values (std's) or their texts, and bytes by what hex decodes; what this crate's readers do isn't in it.
use Rattle.std.specs.{Prelude.ℕ, Prelude.◌≡◌, Prelude.◌≤◌, Prelude.◌<◌, Prelude.◌^◌, Prelude.◌⊎◌, Prelude.true, Prelude.false, Prelude.List, Prelude.[], Prelude.◌∷◌, Prelude.◌++◌, Prelude.length, Prelude.All, Prelude.Some, Prelude.Ok, Prelude.codes, Fmt.decimal, Str.Parse.IsNumeral, Str.Parse.digits_value}
use Rattle.hex.specs.Hex.{decode_of}
use Rattle.script_lang.specs.{Pieces.line_words, Pieces.text_lines, Shapes.Shape, Commands.IsRow, Fields.Form, Fields.ShortForm, Fields.WordForm, Fields.LongForm, Fields.BytesForm, Fields.form_of, Fields.Fields, Fields.field_name, Fields.is_allowed, Fields.has_field, Fields.has_required, Lines.Places, Lines.Read, Lines.nothing_read, Lines.no_words, Lines.call_of, Lines.with_call, Lines.Said, Lines.has_begun, Lines.said_by, Lines.with_owner}
use Rattle.script_lang.specs.{declared.fields.Field.Field, declared.fields.FieldValue.FieldValue, declared.fields.FieldValue.TheVariants.Short, declared.fields.FieldValue.TheVariants.Word, declared.fields.FieldValue.TheVariants.Long, declared.fields.FieldValue.TheVariants.Bytes, declared.fixed.Fixed.Fixed, declared.script.KeyWord.KeyWord}
use Rattle.script_lang.specs.{declared.script.KeyWord.TheVariants.Given, declared.script.KeyWord.TheVariants.Line, declared.commands.Kind.Kind}
use Rattle.script_lang.specs.declared.commands.Kind.TheVariants as kind

-- one to so many digits of a base, of either case, which write a number below a limit
abbrev pub IsNumber : (base most limit : ℕ) → List ℕ → ℕ → Type 0
IsNumber base most limit text n = IsNumeral base text × (length text ≤ most) × (digits_value base text ≡ n) × (n < limit)

-- the value that a text says in a form; at most 16,384 bytes are written as hex digits in pairs, of either case
abbrev pub IsForm : Form → List ℕ → FieldValue → Type 0
IsForm (ShortForm base most least limit) text (Short n) = IsNumber base most limit text n × (least ≤ n)
IsForm WordForm text (Word n) = IsNumber 16 8 (2 ^ 32) text n
IsForm LongForm text (Long n) = IsNumber 10 20 (2 ^ 64) text n
IsForm BytesForm text (Bytes bytes) = (length text ≤ 32768) × (decode_of text ≡ Ok bytes)
IsForm _ text _ = ⊥

-- name=value
abbrev pub IsField : List ℕ → Field × FieldValue → Type 0
IsField word f = (text : List ℕ) × (word ≡ field_name f.0 ++ 61 ∷ text) × IsForm (form_of f.0) text f.1

-- fields of a row in any order, each at most once, after some that stand already
abbrev pub AreFields : Shape → Fields → List (List ℕ) → Fields → Type 0
AreFields row done [] [] = Unit {0}
AreFields row done (w ∷ ws) (f ∷ fs) = IsField w f × (is_allowed row f.0 ≡ true) × (has_field done f.0 ≡ false) × AreFields row (done ++ f ∷ []) ws fs
AreFields row done _ _ = ⊥

abbrev pub IsLetter : ℕ → Type 0
IsLetter c = (97 ≤ c) × (c ≤ 122)

abbrev pub IsNameByte : ℕ → Type 0
IsNameByte c = IsLetter c ⊎ ((48 ≤ c) × (c ≤ 57)) ⊎ (c ≡ 95)

-- a lower-case letter, and at most 15 more letters, digits or underscores
abbrev pub IsName : List ℕ → Type 0
IsName [] = ⊥
IsName (c ∷ cs) = IsLetter c × (length cs ≤ 15) × All IsNameByte cs

-- a key: `#` and 1 to 8 hex digits, or `$` and a name that an earlier line of the session gave
abbrev pub IsKeyWord : Places → List ℕ → KeyWord → Type 0
IsKeyWord places [] key = ⊥
IsKeyWord places (c ∷ cs) (Given id) = (c ≡ 35) × IsNumber 16 8 (2 ^ 32) cs id.0
IsKeyWord places (c ∷ cs) (Line place) = (c ≡ 36) × IsName cs × (places cs ≡ Some place)

-- one of the numbers 1 to `last`, in decimal
abbrev pub IsOneTo : (last : ℕ) → List ℕ → ℕ → Type 0
IsOneTo last word n = (word ≡ decimal n) × (1 ≤ n) × (n ≤ last)

-- a fixed word of a kind, and the fixed words with it
abbrev pub IsFixed : Places → Kind → Fixed → List ℕ → Fixed → Type 0
IsFixed places kind.Name fixed word next = IsName word × (record fixed { name = Some word } ≡ next)
IsFixed places kind.Key fixed word next = (key : KeyWord) × IsKeyWord places word key × (record fixed { key = key } ≡ next)
IsFixed places kind.Handle fixed word next = (handle : ℕ) × IsOneTo 4 word handle × (record fixed { handle = handle } ≡ next)

abbrev pub AreFixed : Places → List Kind → Fixed → List (List ℕ) → Fixed → Type 0
AreFixed places [] fixed [] last = fixed ≡ last
AreFixed places (k ∷ ks) fixed (w ∷ ws) last = (next : Fixed) × IsFixed places k fixed w next × AreFixed places ks next ws last
AreFixed places _ fixed _ last = ⊥

-- a line that is a call: a session, a command, its fixed words in order, then its fields
pub record IsLine (read : Read) (ws : List (List ℕ)) (next : Read) : Type 0 where
  pub session : ℕ
  pub row : Shape
  pub fixed : Fixed
  pub fields : Fields
  pub session_word : List ℕ
  pub fixed_words : List (List ℕ)
  pub field_words : List (List ℕ)
  pub is_session : IsOneTo 16 session_word session
  pub is_row : IsRow row
  pub line : ws ≡ session_word ∷ row.word ∷ fixed_words ++ field_words
  pub are_fixed : AreFixed (read.places session) row.fixed no_words fixed_words fixed
  pub are_fields : AreFields row [] field_words fields
  pub all : has_required row fields ≡ true
  pub after : next ≡ with_call read session fixed.name (call_of row fixed fields)

-- one of the numbers 0 to 15, in decimal
abbrev pub IsOwner : List ℕ → ℕ → Type 0
IsOwner word n = (word ≡ decimal n) × (n ≤ 15)

-- a line that states the owner of a session, before any other line of the session
pub record IsOwnerLine (read : Read) (ws : List (List ℕ)) (next : Read) : Type 0 where
  pub session : ℕ
  pub owner : ℕ
  pub session_word : List ℕ
  pub owner_word : List ℕ
  pub is_session : IsOneTo 16 session_word session
  pub is_owner : IsOwner owner_word owner
  pub line : ws ≡ session_word ∷ codes "owner" ∷ owner_word ∷ []
  pub first : has_begun read session ≡ false
  pub after : next ≡ with_owner read session owner

-- a line by its words; one without words, as a comment, says nothing
abbrev pub IsStep : Read → List (List ℕ) → Read → Type 0
IsStep read [] next = read ≡ next
IsStep read ws next = IsLine read ws next ⊎ IsOwnerLine read ws next

abbrev pub AreSteps : Read → List (List ℕ) → Read → Type 0
AreSteps read [] last = read ≡ last
AreSteps read (line ∷ lines) last = (next : Read) × IsStep read (line_words line) next × AreSteps next lines last

-- at most 4 MiB and 20,000 lines, each in the grammar
pub record IsScript (text : List ℕ) (said : Said) : Type 0 where
  pub last : Read
  pub short : length text ≤ 4194304
  pub few : length (text_lines text) ≤ 20000
  pub steps : AreSteps nothing_read (text_lines text) last
  pub is_said : said_by last ≡ said
