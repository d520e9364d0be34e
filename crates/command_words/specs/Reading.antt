-- What stands while the words of options are read, one after another.
use Rattle.std.specs.{Prelude.ℕ, Prelude.List, Prelude.[], Prelude.◌∷◌, Prelude.Option, Prelude.Some, Prelude.None, Option.option_map, Option.option_and_then, Borrow.Bor}
use Rattle.command_words.specs.{Options.option_in, Options.Texts, declared.options.RunOption.RunOption, declared.options.RunOption.TheVariants.Workers, declared.options.RunOption.TheVariants.Seed, declared.options.RunOption.TheVariants.Rules, declared.options.Settings.Settings, declared.options.Reading.Reading}

-- a value where none stands yet
abbrev pub if_new : {X : Type 0} → Option (List ℕ) → X → Option X
if_new None next = Some next
if_new (Some text) next = None

-- one more option, where it doesn't stand yet
abbrev pub with_option : Texts → RunOption → List ℕ → Option Texts
with_option texts Workers value = if_new texts.workers (record texts { workers = Some value })
with_option texts Seed value = if_new texts.seed (record texts { seed = Some value })
with_option texts Rules value = if_new texts.rules (record texts { rules = Some value })

-- the values so far, and the option whose value is the next word
abbrev pub State : Type 0
State = Texts × Option RunOption

abbrev pub settled_texts : Option Texts → Option State
settled_texts texts = option_map (λ t. (t, None)) texts

-- a further word
abbrev pub after_word : State → List ℕ → Option State
after_word (texts, Some option) word = settled_texts (with_option texts option word)
after_word (texts, None) word = elim (option_in word) [
  | None ↦ None
  | Some (option, None) ↦ Some (texts, Some option)
  | Some (option, Some value) ↦ settled_texts (with_option texts option value)
]

-- the end of the words
abbrev pub at_end : State → Option Texts
at_end (texts, None) = Some texts
at_end (texts, Some option) = None

unfoldable pub after_words : State → List (List ℕ) → Option Texts
after_words state [] = at_end state
after_words state (word ∷ words) = option_and_then (λ next. after_words next words) (after_word state word)

abbrev pub text : Option (Bor (List ℕ)) → Option (List ℕ)
text word = option_map (λ w. w.now) word

abbrev pub texts : Settings → Texts
texts s = record { workers = text s.workers; seed = text s.seed; rules = text s.rules }

abbrev pub state : Reading → State
state r = (texts r.settings, r.waiting)
