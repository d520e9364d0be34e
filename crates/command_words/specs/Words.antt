-- The words of the command line.
use Rattle.std.specs.{Prelude.ℕ, Prelude.◌≤◌, Prelude.List, Prelude.[], Prelude.◌∷◌, Prelude.Option, Prelude.Some, Prelude.None, Prelude.codes, Prelude.bytes_eq, Prelude.replicate, Prelude.if◌then◌else◌, Option.option_map, Option.option_and_then}
use Rattle.policy_rules.specs.declared.narrowing.Label.{Label}
use Rattle.admission.specs.Words.{labels_in}
use Rattle.command_words.specs.{Options.Texts, Options.options_in, Options.texts_of, Values.number_to, Values.seed_in, Values.value_or, declared.command.Command.Command, declared.command.Command.TheVariants.Run, declared.command.Command.TheVariants.Generate, declared.command.RunOptions.RunOptions}

infixl 10 ◌>>=◌
abbrev pub ◌>>=◌ : {A B : Type 0} → Option A → (A → Option B) → Option B
first >>= next = option_and_then next first

-- the values of the options of a run: one worker, a seed of zeros and no rule where the words say no other
abbrev pub run_options : List Label → Texts → Option RunOptions
run_options given texts = do
  workers ← value_or 1 (number_to 16) texts.workers
  seed ← value_or (replicate 32 0) seed_in texts.seed
  labels ← value_or [] (labels_in given) texts.rules
  Some (record { workers = workers; seed = seed; labels = labels })

-- what follows `run`: options in any order, each at most once
unfoldable pub run_of : List Label → List (List ℕ) → Option RunOptions
run_of given words = do
  settings ← options_in None words
  texts ← texts_of settings
  run_options given texts

-- what follows `generate`: a number from 1 to 20,000
unfoldable pub count_of : List (List ℕ) → Option ℕ
count_of (text ∷ []) = number_to 20000 text
count_of _ = None

-- the command that words are, by the labels of the rules that there are
unfoldable pub command_of : List Label → List (List ℕ) → Option Command
command_of given [] = None
command_of given (word ∷ words) =
    if bytes_eq word (codes "run") then option_map Run (run_of given words)
    else if bytes_eq word (codes "generate") then option_map (λ count. Generate count) (count_of words)
    else None

-- one to 16 workers, or 1 to 20,000 lines
abbrev pub IsInRange : Command → Type 0
IsInRange (Run options) = (1 ≤ options.workers) × (options.workers ≤ 16)
IsInRange (Generate count) = (1 ≤ count) × (count ≤ 20000)
