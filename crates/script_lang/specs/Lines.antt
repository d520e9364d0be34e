-- The lines of a script, read from left to right.
use Rattle.script_lang.specs.{declared.commands.Kind.Kind, declared.script.KeyWord.KeyWord, Numbers.number, Numbers.from_least, Pieces.begins_with, Pieces.line_words, Pieces.text_lines, Shapes.Shape, Commands.row_named, Fields.Fields, Fields.read_fields, Fields.has_required, Steps.◌>>=◌, Steps.demand, declared.faults.LineError.LineError, declared.faults.Reason.Reason, declared.fixed.Fixed.Fixed}
use Rattle.std.specs.Prelude.{◌≡◌, ◌≤◌, ◌<◌, All, IfSome, ℕ, ◌+◌, ◌-◌, ◌^◌, Bool, false, ◌||◌, ◌&&◌, nat_lt, nat_le, ◌==◌, List, [], ◌∷◌, ◌++◌, length, drop, slice_get, filter, if◌then◌else◌, Option, Some, None, option_map, ok_or, Result, Ok, Err, codes, not, replicate, slice_set}
use Rattle.owner_space.specs.Owners.{owner_count}
use Rattle.std.specs.{List.list_all, Option.unwrap_or, Str.bytes_eq}
use Rattle.script_lang.specs.declared.faults.LineError.TheVariants as errors
use Rattle.script_lang.specs.declared.faults.Reason.TheVariants.{BadSession, UnknownCommand, MissingWord, BadHandle, BadName, BadKey, UnknownName, UnknownField, MissingField, LateOwner, BadOwner}
use Rattle.script_lang.specs.{declared.faults.ScriptFault.ScriptFault, declared.faults.ScriptFault.TheVariants.TooLong, declared.faults.ScriptFault.TheVariants.TooManyLines, declared.faults.ScriptFault.TheVariants.BadLine, declared.script.KeyWord.TheVariants.Given, declared.script.KeyWord.TheVariants.Line, declared.script.ScriptCall.ScriptCall, declared.script.ScriptLine.ScriptLine}
use Rattle.script_lang.specs.declared.faults.ScriptFault.TheVariants as faults
use Rattle.script_lang.specs.declared.commands.Kind.TheVariants as kind

abbrev pub is_letter : ℕ → Bool
is_letter c = nat_le 97 c && nat_le c 122

abbrev pub is_name_byte : ℕ → Bool
is_name_byte c = is_letter c || (nat_le 48 c && nat_le c 57) || c == 95

-- a lower-case letter, and at most 15 more letters, digits or underscores
unfoldable pub is_name : List ℕ → Bool
is_name [] = false
is_name (c ∷ cs) = is_letter c && nat_le (length cs) 15 && list_all is_name_byte cs

-- what the names of a session stand for: places among its calls, from 0
abbrev pub Places : Type 0
Places = List ℕ → Option ℕ

-- a key: `#` and hex digits, or `$` and a name
unfoldable pub key_at : Places → List ℕ → Result KeyWord Reason
key_at places [] = Err BadKey
key_at places (c ∷ cs) =
    if c == 35 then ok_or (option_map (λ n. Given (record { 0 = n })) (number 16 8 (2 ^ 32) cs)) BadKey
    else if c == 36 && is_name cs then ok_or (option_map Line (places cs)) UnknownName
    else Err BadKey

-- a handle: one of the digits 1 to 4
abbrev pub handle_at : List ℕ → Result ℕ Reason
handle_at (c ∷ []) = if nat_le 49 c && nat_le c 52 then Ok (c - 48) else Err BadHandle
handle_at _ = Err BadHandle

-- no fixed word yet: the key 0, no name, and the first handle
abbrev pub no_words : Fixed
no_words = record { key = Given (record { 0 = 0 }); name = None; handle = 1 }

-- one more fixed word
unfoldable pub with_word : Places → Kind → Fixed → List ℕ → Result Fixed Reason
with_word places kind.Name fixed word = do
  name_so ← demand (is_name word) BadName
  Ok (record fixed { name = Some word })
with_word places kind.Key fixed word = do
  key ← key_at places word
  Ok (record fixed { key = key })
with_word places kind.Handle fixed word = do
  handle ← handle_at word
  Ok (record fixed { handle = handle })

-- the fixed words of a line, and the words after them
unfoldable pub read_fixed : Places → List Kind → Fixed → List (List ℕ) → Result (Fixed × List (List ℕ)) Reason
read_fixed places [] fixed ws = Ok (fixed, ws)
read_fixed places (k ∷ ks) fixed ws = do
  word ← ok_or (slice_get ws 0) MissingWord
  next ← with_word places k fixed word
  read_fixed places ks next (drop 1 ws)

-- what was read: the calls, what the names of each session stand for, the owners of sessions 1 to 16 once a line states one,
-- and which sessions have stated theirs
pub record Read : Type 0 where
  pub lines : List ScriptLine
  pub places : ℕ → Places
  pub owners : Option (List ℕ)
  pub stated : ℕ → Bool

-- nothing was read: no name stands for anything, and no session has stated an owner
abbrev pub nothing_read : Read
nothing_read = record { lines = []; places = λ session name. None; owners = None; stated = λ session. false }

-- what a script says: its calls, and the owners of sessions 1 to 16, where one of its lines states one
pub record Said : Type 0 where
  pub lines : List ScriptLine
  pub owners : Option (List ℕ)

-- owners are numbered from 0 to 15
abbrev pub AreOwners : Option (List ℕ) → Type 0
AreOwners owners = IfSome owners (All (λ owner. owner < owner_count))

abbrev pub said_by : Read → Said
said_by read = record { lines = read.lines; owners = read.owners }

-- 1 to 16, without a leading zero
unfoldable pub session_of : List ℕ → Option ℕ
session_of word = if begins_with 48 word then None else from_least 1 (number 10 2 17 word)

-- 0 to 15, without a leading zero
unfoldable pub owner_of : List ℕ → Option ℕ
owner_of word = if begins_with 48 word && nat_lt 1 (length word) then None else number 10 2 16 word

abbrev pub lines_of : ℕ → List ScriptLine → List ScriptLine
lines_of session lines = filter (λ line. line.session == session) lines

-- a name that a line gives stands for the line's place from then on
abbrev pub given_place : Places → Option (List ℕ) → ℕ → Places
given_place places None place = places
given_place places (Some name) place = λ n. if bytes_eq n name then Some place else places n

-- one more call of a session, and the name that its line gives
abbrev pub with_call : Read → ℕ → Option (List ℕ) → ScriptCall → Read
with_call read session name call = record {
  lines = read.lines ++ record { session = session; call = call } ∷ [];
  places = λ s. if s == session then given_place (read.places s) name (length (lines_of session read.lines)) else read.places s;
  owners = read.owners;
  stated = read.stated;
}

-- a session has stated its owner, or has a call
abbrev pub has_begun : Read → ℕ → Bool
has_begun read session = read.stated session || nat_lt 0 (length (lines_of session read.lines))

-- a session's owner; the sessions that state none have owner 0
abbrev pub with_owner : Read → ℕ → ℕ → Read
with_owner read session owner = record {
  lines = read.lines;
  places = read.places;
  owners = Some (slice_set (unwrap_or read.owners (replicate 16 0)) (session - 1) owner);
  stated = λ s. s == session || read.stated s;
}

-- the call of a row, by the fixed words and the fields of its line
abbrev pub call_of : Shape → Fixed → Fields → ScriptCall
call_of row fixed fs = record { command = row.command; key = fixed.key; handle = fixed.handle; fields = fs }

-- the words after a command, by its row: the name that the line gives, and its call
unfoldable pub parts_at : Places → Shape → List (List ℕ) → Result (Option (List ℕ) × ScriptCall) Reason
parts_at places row ws = do
  fixed ← read_fixed places row.fixed no_words ws
  fs ← read_fields row [] fixed.1
  all_so ← demand (has_required row fs) MissingField
  Ok (fixed.0.name, call_of row fixed.0 fs)

-- the words after the word `owner`: one owner, before any other line of the session
unfoldable pub owner_line : Read → ℕ → List (List ℕ) → Result Read Reason
owner_line read session ws = do
  first_so ← demand (not (has_begun read session)) LateOwner
  word ← ok_or (slice_get ws 0) MissingWord
  owner ← ok_or (owner_of word) BadOwner
  last_so ← demand (length ws == 1) UnknownField
  Ok (with_owner read session owner)

-- a command and the words after it
unfoldable pub call_line : Read → ℕ → (name : List ℕ) → List (List ℕ) → Result Read Reason
call_line read session name ws = do
  row ← ok_or (row_named name) UnknownCommand
  parts ← parts_at (read.places session) row ws
  Ok (with_call read session parts.0 parts.1)

-- the words of a line
unfoldable pub words_at : Read → List (List ℕ) → Result Read Reason
words_at read [] = Ok read
words_at read (word ∷ ws) = do
  session ← ok_or (session_of word) BadSession
  name ← ok_or (slice_get ws 0) UnknownCommand
  if bytes_eq name (codes "owner") then owner_line read session (drop 1 ws) else call_line read session name (drop 1 ws)

abbrev pub or_bad_line : Result Read Reason → ℕ → (Read → Result Said ScriptFault) → Result Said ScriptFault
or_bad_line (Ok next) n f = f next
or_bad_line (Err r) n f = Err (BadLine n r)

-- the lines from one number on, or the first that is outside the grammar
unfoldable pub lines_at : ℕ → Read → List (List ℕ) → Result Said ScriptFault
lines_at n read [] = Ok (said_by read)
lines_at n read (line ∷ lines) = or_bad_line (words_at read (line_words line)) n (λ next. lines_at (n + 1) next lines)

-- what a text says, or why it isn't a script
unfoldable pub script_of : List ℕ → Result Said ScriptFault
script_of text =
    if nat_lt 4194304 (length text) then Err TooLong
    else if nat_lt 20000 (length (text_lines text)) then Err TooManyLines
    else lines_at 1 nothing_read (text_lines text)

-- what a reader answered is what reading gives, unless memory ran out
abbrev pub ScriptFails : {Y : Type 0} → ScriptFault → Result Y ScriptFault → Type 0
ScriptFails faults.Memory read = Unit {0}
ScriptFails f read = read ≡ Err f

abbrev pub ScriptGives : {X Y : Type 0} → (X → Y) → Result X ScriptFault → Result Y ScriptFault → Type 0
ScriptGives view (Ok x) read = read ≡ Ok (view x)
ScriptGives view (Err f) read = ScriptFails f read

-- why a script isn't read, where one of its lines isn't
abbrev pub fault_at : ℕ → LineError → ScriptFault
fault_at n errors.Memory = faults.Memory
fault_at n (errors.Bad r) = BadLine n r

-- a line of one of the sessions 1 to 16
abbrev pub IsOfSession : ScriptLine → Type 0
IsOfSession line = (1 ≤ line.session) × (line.session ≤ 16)
