-- The fields of a line.
use Rattle.script_lang.specs.{declared.faults.Reason.Reason, Numbers.number, Numbers.from_least, Pieces.cut_of, Steps.◌>>=◌, Steps.demand, Shapes.Shape, declared.faults.Reason.TheVariants.UnknownField, declared.faults.Reason.TheVariants.RepeatedField, declared.faults.Reason.TheVariants.BadValue, declared.fields.Field.Field, declared.fields.FieldValue.FieldValue}
use Rattle.std.specs.{Prelude.ℕ, Prelude.◌^◌, Prelude.Bool, Prelude.not, Prelude.nat_lt, Prelude.min, Prelude.◌==◌, Prelude.List, Prelude.[], Prelude.◌∷◌, Prelude.◌++◌, Prelude.length, Prelude.if◌then◌else◌, Prelude.◌||◌, Prelude.Option, Prelude.Some, Prelude.None, Prelude.option_map, Prelude.ok_or, Prelude.find, Prelude.Ok, Prelude.codes, Prelude.Result, List.list_any, List.list_all}
use Rattle.std.specs.{Result.result_ok, Str.bytes_eq}
use Rattle.key_attributes.specs.declared.Attributes.{Attributes}
use Rattle.hex.specs.Hex.{decode_of}
use Rattle.script_lang.specs.declared.fields.Field.TheVariants as field
use Rattle.script_lang.specs.declared.fields.FieldValue.TheVariants.{Short, Word, Long, Bytes}

-- What the text of a field is: a number of at most so many digits of a base, from the least and below a limit
-- (of 16 bits; of 32 bits in hex; of 64 bits in decimal), or bytes: hex digits in pairs, of at most 16,384 bytes.
pub data Form : Type 0 where
  ShortForm : (base most least limit : ℕ) → Form
  WordForm : Form
  LongForm : Form
  BytesForm : Form

-- a field's number, which no other has, its name, and how its text is written
abbrev pub field_row : Field → ℕ × List ℕ × Form
field_row field.Type = (0, codes "type", ShortForm 16 4 0 (2 ^ 16))
field_row field.Usage = (1, codes "usage", WordForm)
field_row field.Alg = (2, codes "alg", WordForm)
field_row field.Data = (3, codes "data", BytesForm)
field_row field.Life = (4, codes "life", WordForm)
field_row field.Id = (5, codes "id", WordForm)
field_row field.Bits = (6, codes "bits", ShortForm 10 20 0 (2 ^ 16))
field_row field.Room = (7, codes "room", ShortForm 10 20 0 16449)
field_row field.Hash = (8, codes "hash", BytesForm)
field_row field.Mac = (9, codes "mac", BytesForm)
field_row field.Nonce = (10, codes "nonce", BytesForm)
field_row field.Ad = (11, codes "ad", BytesForm)
field_row field.Iv = (12, codes "iv", BytesForm)
field_row field.Tag = (13, codes "tag", BytesForm)
field_row field.AdLength = (14, codes "ad_len", LongForm)
field_row field.PlainLength = (15, codes "plain_len", LongForm)
field_row field.Capacity = (16, codes "capacity", LongForm)
field_row field.Value = (17, codes "value", LongForm)
field_row field.Length = (18, codes "len", ShortForm 10 20 1 16385)
field_row field.Step = (19, codes "step", ShortForm 16 4 0 (2 ^ 16))
field_row field.Alg2 = (20, codes "alg2", WordForm)

abbrev pub field_number : Field → ℕ
field_number f = (field_row f).0

abbrev pub field_name : Field → List ℕ
field_name f = (field_row f).1

abbrev pub form_of : Field → Form
form_of f = (field_row f).2

abbrev pub all_fields : List Field
all_fields =
    field.Type ∷ field.Usage ∷ field.Alg ∷ field.Data ∷ field.Life ∷ field.Id ∷ field.Bits ∷ field.Room ∷ field.Hash ∷ field.Mac
    ∷ field.Nonce ∷ field.Ad ∷ field.Iv ∷ field.Tag ∷ field.AdLength ∷ field.PlainLength ∷ field.Capacity ∷ field.Value ∷ field.Length
    ∷ field.Step ∷ field.Alg2 ∷ []

abbrev pub field_named : List ℕ → Option Field
field_named name = find (λ f. bytes_eq (field_name f) name) all_fields

abbrev pub Fields : Type 0
Fields = List (Field × FieldValue)

abbrev pub is_among : List Field → Field → Bool
is_among fields f = list_any (λ g. field_number g == field_number f) fields

abbrev pub is_allowed : Shape → Field → Bool
is_allowed row f = is_among row.required f || is_among row.optional f

abbrev pub is_field : Field → Field × FieldValue → Bool
is_field f g = field_number g.0 == field_number f

abbrev pub has_field : Fields → Field → Bool
has_field done f = list_any (is_field f) done

abbrev pub has_required : Shape → Fields → Bool
has_required row done = list_all (has_field done) row.required

abbrev pub form_value : Form → List ℕ → Option FieldValue
form_value (ShortForm base most least limit) text = option_map Short (from_least least (number base most limit text))
form_value WordForm text = option_map Word (number 16 8 (2 ^ 32) text)
form_value LongForm text = option_map Long (number 10 20 (2 ^ 64) text)
form_value BytesForm text = if nat_lt 32768 (length text) then None else option_map Bytes (result_ok (decode_of text))

unfoldable pub field_value : Field → List ℕ → Result FieldValue Reason
field_value f text = ok_or (form_value (form_of f) text) BadValue

-- a further word of a line, after the fields that stand already
unfoldable pub read_field : Shape → Fields → List ℕ → Result (Field × FieldValue) Reason
read_field row done word = do
  parts ← ok_or (cut_of 61 word) UnknownField
  f ← ok_or (field_named parts.0) UnknownField
  allowed_so ← demand (is_allowed row f) UnknownField
  new_so ← demand (not (has_field done f)) RepeatedField
  v ← field_value f parts.1
  Ok (f, v)

unfoldable pub read_fields : Shape → Fields → List (List ℕ) → Result Fields Reason
read_fields row done [] = Ok done
read_fields row done (word ∷ rest) = do
  f ← read_field row done word
  read_fields row (done ++ f ∷ []) rest

-- what a field says, and a default where it is missing
abbrev pub short_of : ℕ → Option (Field × FieldValue) → ℕ
short_of default (Some (f, Short n)) = n
short_of default _ = default

abbrev pub word_of : Option (Field × FieldValue) → ℕ
word_of (Some (f, Word n)) = n
word_of _ = 0

abbrev pub long_of : Option (Field × FieldValue) → ℕ
long_of (Some (f, Long n)) = n
long_of _ = 0

abbrev pub bytes_of_value : Option (Field × FieldValue) → List ℕ
bytes_of_value (Some (f, Bytes b)) = b
bytes_of_value _ = []

abbrev pub short_at : ℕ → Field → Fields → ℕ
short_at default f fs = short_of default (find (is_field f) fs)

abbrev pub word_at : Field → Fields → ℕ
word_at f fs = word_of (find (is_field f) fs)

abbrev pub long_at : Field → Fields → ℕ
long_at f fs = long_of (find (is_field f) fs)

-- the length of the output buffer, which has 16,448 bytes at most: `len` of a derivation's bytes, or `room`, and all where
-- the line says neither
abbrev pub room_at : Fields → ℕ
room_at fs = min 16448 (short_at (short_at 16448 field.Room fs) field.Length fs)

abbrev pub bytes_at : Field → Fields → List ℕ
bytes_at f fs = bytes_of_value (find (is_field f) fs)

abbrev pub alg_at : Fields → ℕ
alg_at fs = word_at field.Alg fs

abbrev pub data_at : Fields → List ℕ
data_at fs = bytes_at field.Data fs

-- the attributes of a key that a line creates
abbrev pub attributes_at : Fields → Attributes
attributes_at fs = record {
  lifetime = record { 0 = word_at field.Life fs };
  id = record { 0 = word_at field.Id fs };
  key_type = record { 0 = short_at 0 field.Type fs };
  bits = short_at 0 field.Bits fs;
  policy = record { usage = record { 0 = word_at field.Usage fs }; alg = record { 0 = alg_at fs }; alg2 = record { 0 = word_at field.Alg2 fs } };
}
