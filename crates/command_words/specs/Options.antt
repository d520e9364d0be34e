-- The options of a run.
use Rattle.std.specs.{Prelude.ℕ, Prelude.Bool, Prelude.List, Prelude.[], Prelude.◌∷◌, Prelude.Option, Prelude.Some, Prelude.None, Prelude.◌==◌, Prelude.nat_le, Prelude.if◌then◌else◌, Prelude.codes, Prelude.bytes_eq, Prelude.find, Prelude.count_by, Prelude.option_map, List.list_any, List.list_all, List.before_first, List.after_first}
use Rattle.command_words.specs.{declared.options.RunOption.RunOption, declared.options.RunOption.TheVariants.Workers, declared.options.RunOption.TheVariants.Seed, declared.options.RunOption.TheVariants.Rules}

abbrev pub option_name : RunOption → List ℕ
option_name Workers = codes "--workers"
option_name Seed = codes "--seed"
option_name Rules = codes "--rules"

abbrev pub all_options : List RunOption
all_options = Workers ∷ Seed ∷ Rules ∷ []

abbrev pub option_named : List ℕ → Option RunOption
option_named name = find (λ option. bytes_eq (option_name option) name) all_options

abbrev pub is_equals : ℕ → Bool
is_equals byte = byte == 61

-- what a word says in an option's place: the option's name, or name and value with `=` between them; else it is outside
abbrev pub option_in : List ℕ → Option (RunOption × Option (List ℕ))
option_in word =
    if list_any is_equals word then option_map (λ option. (option, Some (after_first is_equals word))) (option_named (before_first is_equals word))
    else option_map (λ option. (option, None)) (option_named word)

-- an option and its value
abbrev pub Setting : Type 0
Setting = RunOption × List ℕ

-- The options that words give. Behind a name alone the next word is the value, whatever that is: `waiting` is the
-- option whose value the first of these words is.
unfoldable pub options_in : (waiting : Option RunOption) → List (List ℕ) → Option (List Setting)
options_in None [] = Some []
options_in (Some option) [] = None
options_in (Some option) (value ∷ words) = option_map (λ settings. (option, value) ∷ settings) (options_in None words)
options_in None (word ∷ words) = elim (option_in word) [
  | None ↦ None
  | Some (option, None) ↦ options_in (Some option) words
  | Some (option, Some value) ↦ option_map (λ settings. (option, value) ∷ settings) (options_in None words)
]

-- options are told apart by their names
abbrev pub is_of : RunOption → Setting → Bool
is_of option setting = bytes_eq (option_name setting.0) (option_name option)

-- each option stands at most once
abbrev pub are_single : List Setting → Bool
are_single settings = list_all (λ option. nat_le (count_by (is_of option) settings) 1) all_options

-- the value of an option, where it stands
abbrev pub value_of : RunOption → List Setting → Option (List ℕ)
value_of option settings = option_map (λ setting. setting.1) (find (is_of option) settings)

-- the values of the options
pub record Texts : Type 0 where
  pub workers : Option (List ℕ)
  pub seed : Option (List ℕ)
  pub rules : Option (List ℕ)

abbrev pub texts_of : List Setting → Option Texts
texts_of settings =
    if are_single settings then Some (record { workers = value_of Workers settings; seed = value_of Seed settings; rules = value_of Rules settings })
    else None
