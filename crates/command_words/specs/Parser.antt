-- The command of `clap`, and what its matches ask for.
use Rattle.std.specs.{Prelude.◌≡◌, Prelude.List, Prelude.Option, Prelude.Some, Prelude.None, Prelude.IsSome, Prelude.codes, Prelude.bytes_eq, Prelude.true, Prelude.if◌then◌else◌, Option.option_map, Option.option_and_then}
use Rattle.clap.specs.{Words.App, Words.Row, Words.Rule, Words.Text, Words.first_of, Words.kind_of, Words.new_app, Words.new_rule, Words.subcommand_rows_of, Words.with_rule, Words.with_subcommand, Simple.on_top, declared.error.Error.Error, declared.error.kind.ErrorKind.TheVariants.OutOfMemory, declared.parser.matches.ArgMatches.ArgMatches}
use Rattle.policy_rules.specs.declared.narrowing.Label.{Label}
use Rattle.command_words.specs.{Options.Texts, Values.number_to, Words.run_options, Words.command_of, declared.options.RunOption.RunOption, declared.options.RunOption.TheVariants.Workers, declared.options.RunOption.TheVariants.Seed, declared.options.RunOption.TheVariants.Rules, declared.command.Command.Command}
use Rattle.command_words.specs.declared.command.Command.TheVariants.{Run, Generate}

-- an option's name without its hyphens, by which `clap` finds it
abbrev pub option_id : RunOption → Text
option_id Workers = codes "workers"
option_id Seed = codes "seed"
option_id Rules = codes "rules"

abbrev pub option_rule : Text → Rule
option_rule id = record (new_rule id) { long = Some id }

abbrev pub run_command : App
run_command = with_rule (with_rule (with_rule (new_app (codes "run")) (option_rule (option_id Workers))) (option_rule (option_id Seed))) (option_rule (option_id Rules))

abbrev pub generate_command : App
generate_command = with_rule (new_app (codes "generate")) (new_rule (codes "count"))

-- the words have no name of a program before them, and `clap` answers no call for help
abbrev pub bare_command : App
bare_command = on_top (λ s. record s { no_binary_name = true; disable_help_flag = true; disable_help_subcommand = true }) (new_app (codes "psa_host"))

abbrev pub program : App
program = with_subcommand (with_subcommand bare_command run_command.top) generate_command.top

-- the values of a run's options
abbrev pub texts_in : List Row → Texts
texts_in rows = record { workers = first_of (option_id Workers) rows; seed = first_of (option_id Seed) rows; rules = first_of (option_id Rules) rows }

-- the command that a subcommand's name and its matches ask for
abbrev pub asked_of : List Label → Option (Text × List Row) → Option Command
asked_of given None = None
asked_of given (Some (name, rows)) =
    if bytes_eq name (codes "run") then option_map Run (run_options given (texts_in rows))
    else if bytes_eq name (codes "generate") then option_map (λ count. Generate count) (option_and_then (number_to 20000) (first_of (codes "count") rows))
    else None

-- where words are a command, by any labels, matches ask for it
abbrev pub AskFor : List Text → ArgMatches → Type 0
AskFor words matches = (given : List Label) → IsSome (command_of given words) → asked_of given (subcommand_rows_of matches) ≡ command_of given words

-- where words are a command, by any labels, an error is want of memory
abbrev pub IsForMemory : List Text → Error → Type 0
IsForMemory words error = (given : List Label) → IsSome (command_of given words) → kind_of error ≡ OutOfMemory
