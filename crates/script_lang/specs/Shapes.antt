-- The row of a command.
use Rattle.std.specs.Prelude.{ℕ, List}
use Rattle.script_lang.specs.{declared.fields.Field.Field, declared.commands.Kind.Kind, declared.commands.ScriptCommand.ScriptCommand, declared.commands.Row.Row}

-- the word of a command, its fixed words in order, the fields that it needs, and those that may stand
pub record Shape : Type 0 where
  pub word : List ℕ
  pub command : ScriptCommand
  pub fixed : List Kind
  pub required : List Field
  pub optional : List Field

abbrev pub row : List ℕ → ScriptCommand → List Kind → List Field → List Field → Shape
row word command fixed required optional = record { word = word; command = command; fixed = fixed; required = required; optional = optional }

-- a row of the program as a row here
abbrev pub shape : Row → Shape
shape r = row r.word.now r.command r.fixed.now r.required.now r.optional.now
