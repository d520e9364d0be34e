-- The lines of the generator.
use Rattle.std.specs.{Prelude.ℕ, Prelude.◌+◌, Prelude.◌-◌, Prelude.◌*◌, Prelude.◌/◌, Prelude.◌%◌, Prelude.◌==◌, Prelude.if◌then◌else◌, Prelude.List, Prelude.[], Prelude.◌∷◌, Prelude.map, List.range_with_len}
use Rattle.script_lang.specs.{Prelude.Fields, declared.commands.ScriptCommand.ScriptCommand, declared.commands.ScriptCommand.TheVariants.Key, declared.commands.ScriptCommand.TheVariants.SinglePart, declared.store_commands.KeyCommand.TheVariants.Import, declared.store_commands.KeyCommand.TheVariants.Export, declared.store_commands.KeyCommand.TheVariants.Destroy, declared.script.KeyWord.KeyWord}
use Rattle.script_lang.specs.{declared.store_commands.SinglePartCommand.TheVariants.CipherEncrypt, declared.store_commands.SinglePartCommand.TheVariants.MacCompute, declared.fields.FieldValue.TheVariants.Short, declared.fields.FieldValue.TheVariants.Word, declared.fields.FieldValue.TheVariants.Bytes, declared.script.KeyWord.TheVariants.Given, declared.script.KeyWord.TheVariants.Line}
use Rattle.script_lang.specs.declared.fields.Field.TheVariants as field
use Rattle.script_lang.specs.{declared.script.ScriptCall.ScriptCall, declared.script.ScriptLine.ScriptLine}

-- so many bytes, one up from the other, from a number on
abbrev pub rising_bytes : (first count : ℕ) → List ℕ
rising_bytes first count = map (λ t. (first + t) % 256) (range_with_len 0 count)

-- a call without a handle
abbrev pub call : ScriptCommand → KeyWord → Fields → ScriptCall
call command key fields = record { command = command; key = key; handle = 1; fields = fields }

-- the fields of a call with an algorithm and data
abbrev pub fields : ℕ → List ℕ → Fields
fields alg bytes = (field.Alg, Word alg) ∷ (field.Data, Bytes bytes) ∷ []

-- an AES key for CBC without padding, with the flags EXPORT and ENCRYPT
abbrev pub import_fields : List ℕ → Fields
import_fields bytes = (field.Type, Short 0x2400) ∷ (field.Usage, Word 0x101) ∷ (field.Alg, Word 0x04404000) ∷ (field.Data, Bytes bytes) ∷ []

-- What line i asks, by its kind: `import k type=2400 usage=101 alg=04404000` with 16 bytes from i on, then with that
-- key `cipher_encrypt $k alg=04404000` of 64 bytes from 3 i on, `export $k`, `mac_compute $k alg=03c00200 data=00`
-- and `destroy $k`. The key's line stands `kind` places before this one among its session's.
abbrev pub generator_call : (i place kind : ℕ) → ScriptCall
generator_call i place kind =
    if kind == 0 then call (Key Import) (Given (record { 0 = 0 })) (import_fields (rising_bytes i 16))
    else if kind == 1 then call (SinglePart CipherEncrypt) (Line (place - 1)) (fields 0x04404000 (rising_bytes (3 * i) 64))
    else if kind == 2 then call (Key Export) (Line (place - 2)) []
    else if kind == 3 then call (SinglePart MacCompute) (Line (place - 3)) (fields 0x03c00200 (0 ∷ []))
    else call (Key Destroy) (Line (place - 4)) []

-- Line i, from 0, is of session i % 4 + 1. There it stands at place i / 4, from 0, and each fifth is of the same kind.
abbrev pub generator_line : ℕ → ScriptLine
generator_line i = record { session = i % 4 + 1; call = generator_call i (i / 4) (i / 4 % 5) }

-- the lines of `generate`
abbrev pub generator_lines : ℕ → List ScriptLine
generator_lines count = map generator_line (range_with_len 0 count)
