-- `clap` takes the words that are a command, and finds that command in them.
use Rattle.std.proofs.Common.{rules, Bool, List, None, Option, Some, [], ap, arith, bytes_eq, codes, cond, false, fold, is_some, option_and_then, option_map, refl, subst, sym, true, ℕ, ◌&&◌, ◌∙◌, ◌∷◌, ◌≡◌}
use Rattle.command_words.proofs.Common.{App, Generate, Label, Names, Row, Rule, Rules, Run, RunOption, RunOptions, Seed, Shape, Text, Texts, Walk, Workers, asked_of, built, bytes_eq-Decides, command_of, count_of, entered, entered_passes, filled, finished, has_row, idle, is_valid, level_passes, names_of, new_rule, new_shape, none-some, nothing_held, number_to, option_and_then_some, options_in, program, rows_after, run_of, run_options, settle_passes, settled, subcommand_of, takes, texts_in, texts_of, turn_passes, walk, walk_passes, walk_stopped, walked, with_default, with_index}
use Rattle.clap.specs.Words.{first_of}
use Rattle.command_words.specs.declared.command.Command.{Command}
use Rattle.command_words.proofs.{Hyphens.IsBare, Hyphens.AreBare, Hyphens.bare, Hyphens.are_bare, Hyphens.no_number, OptionWords.mapped, Rows.option_built, Rows.HasValues, Rows.texts_are_in, RunWalk.run_rules, RunWalk.run_shape, RunWalk.between, RunWalk.Ends, RunWalk.follows, Settings.text_at, Settings.reads_all}

-- what `clap` builds of `generate`, and of the whole
abbrev generate_rules : List Rule
generate_rules = with_index 1 (filled (new_rule (codes "count"))) ∷ []

abbrev generate_shape : Shape
generate_shape = record (new_shape (codes "generate")) { rules = generate_rules; no_binary_name = true; disable_help_flag = true; disable_help_subcommand = true; is_built = true }

abbrev top_shape : Shape
top_shape = record (new_shape (codes "psa_host")) { is_leaf = false; no_binary_name = true; disable_help_flag = true; disable_help_subcommand = true; is_built = true }

abbrev program_built : App
program_built = record { top = top_shape; subs = run_shape ∷ generate_shape ∷ [] }

is_built : built program ≡ program_built
is_built = refl

-- the words behind `run`

no_default : (option : RunOption) (rows : List Row) → with_default rows (option_built option) ≡ rows
no_default option rows = go (has_row (option_built option).id rows)
  where
    go : (b : Bool) → cond b rows rows ≡ rows
    go true = refl
    go false = refl

no_defaults : (rows : List Row) → fold with_default rows run_rules ≡ rows
no_defaults rows = search rules

abbrev none_yet : Texts
none_yet = record { workers = None; seed = None; rules = None }

no_values : HasValues none_yet []
no_values = record { value = λ option. elim option as (λ o. None ≡ option_map (λ v. v ∷ []) (text_at none_yet o)) [ Workers ↦ refl | Seed ↦ refl | Rules ↦ refl ] }

record TakesRun (words : List Text) (texts : Texts) : Type 0 where
  passes : level_passes run_shape [] nothing_held words false ≡ true
  finds : texts_in (rows_after run_rules [] words) ≡ texts

takes_run : (words : List Text) (texts : Texts) → AreBare texts → option_and_then texts_of (options_in None words) ≡ Some texts → TakesRun words texts
takes_run words texts are e =
    let start : Ends none_yet nothing_held = record { settles = refl; values = no_values } in
    let rows = (settled run_rules (walk run_rules [] nothing_held words).held).rows in
    let all = follows words texts are none_yet None nothing_held (reads_all words ∙ e) start in
    record {
      passes = rw (all.passes, all.ends.settles) refl;
      finds = ap texts_in (no_defaults rows) ∙ texts_are_in texts rows all.ends.values;
    }

-- the word behind `generate`

record TakesCount (text : Text) : Type 0 where
  passes : level_passes generate_shape [] nothing_held (text ∷ []) false ≡ true
  finds : first_of (codes "count") (rows_after generate_rules [] (text ∷ [])) ≡ Some text

takes_count : (text : Text) → IsBare text → TakesCount text
unfolding walked walk_passes
takes_count text is = search rules

-- the first word

abbrev names : Names
names = names_of program_built

abbrev stopped_at : Text → List Text → Walk
stopped_at name words = record (between nothing_held idle) { stopped = Some (name, words) }

enters : (name : Text) (words : List Text) → walked [] names (between nothing_held idle) name ≡ stopped_at name [] → walk [] names nothing_held (name ∷ words) ≡ stopped_at name words
enters name words e = ap (λ w. fold (walked [] names) w words) e ∙ sym (walk_stopped [] names (between nothing_held idle) name [] words)

passes_on : (name : Text) (seen words : List Text) → walk_passes top_shape names (stopped_at name seen) words ≡ true
unfolding walk_passes walked
passes_on name seen [] = refl
passes_on name seen (word ∷ words) = passes_on name _ words

abbrev Enters : Text → Type 0
Enters name = (turn_passes top_shape names (between nothing_held idle) name ≡ true) × (walked [] names (between nothing_held idle) name ≡ stopped_at name [])

-- where the subcommand's words pass, all do
takes_below : (name : Text) (words : List Text) → Enters name → entered_passes program_built (Some (name, words)) ≡ true → takes program (name ∷ words) ≡ true
unfolding walk_passes
takes_below name words first below =
    let others : walk_passes top_shape names (between nothing_held idle) (name ∷ words) ≡ true = rw (first.0, first.1) (passes_on name [] words) in
    ap (λ (w : Walk). entered_passes program_built w.stopped && (walk_passes top_shape names (between nothing_held idle) (name ∷ words)
    && (settle_passes [] false w.held && is_valid top_shape (finished [] w.held) (is_some (entered program_built w.stopped))))) (enters name words first.1)
    ∙ rw (below, others) refl

asks_below : (given : List Label) (name : Text) (words : List Text) → Enters name → asked_of given (subcommand_of program (name ∷ words)) ≡ asked_of given (entered program_built (Some (name, words)))
asks_below given name words first = ap (λ (w : Walk). asked_of given (entered program_built w.stopped)) (enters name words first.1)

-- `clap` takes words, and finds the command in them
pub record Finds (given : List Label) (words : List Text) : Type 0 where
  pub takes : takes program words ≡ true
  pub command : asked_of given (subcommand_of program words) ≡ command_of given words

enters_run : Enters (codes "run")
unfolding walked
enters_run = (refl, refl)

enters_generate : Enters (codes "generate")
unfolding walked
enters_generate = (refl, refl)

finds_run : (given : List Label) (words : List Text) (options : RunOptions) → run_of given words ≡ Some options → Finds given (codes "run" ∷ words)
unfolding run_of command_of
finds_run given words options e = option_and_then_some _ (options_in None words) options e (λ settings s e2. option_and_then_some _ (texts_of settings) options e2 (λ texts t e3.
    let all : option_and_then texts_of (options_in None words) ≡ Some texts = ap (option_and_then texts_of) s ∙ t in
    let run = takes_run words texts (are_bare given texts options e3) all in record {
      takes = takes_below (codes "run") words enters_run run.passes;
      command = asks_below given (codes "run") words enters_run
          ∙ ap (λ found. option_map Run (run_options given found)) run.finds ∙ ap (option_map Run) (e3 ∙ sym e);
    }))

finds_generate : (given : List Label) (words : List Text) (count : ℕ) → count_of words ≡ Some count → Finds given (codes "generate" ∷ words)
unfolding count_of command_of
finds_generate given [] count e = absurd (none-some count e)
finds_generate given (text ∷ []) count e =
    let one = takes_count text (bare (number_to 20000) text count (no_number 20000 (omega arith)) e) in record {
      takes = takes_below (codes "generate") (text ∷ []) enters_generate one.passes;
      command = asks_below given (codes "generate") (text ∷ []) enters_generate
          ∙ ap (λ found. option_map (λ n. Generate n) (option_and_then (number_to 20000) found)) one.finds;
    }
finds_generate given (text ∷ other ∷ words) count e = absurd (none-some count e)

finds : (given : List Label) (words : List Text) (command : Command) → command_of given words ≡ Some command → Finds given words
unfolding command_of
finds given [] command e = absurd (none-some command e)
finds given (word ∷ words) command e = run (bytes_eq word (codes "run")) refl e
  where
    other : (b : Bool) → bytes_eq word (codes "generate") ≡ b → cond b (option_map (λ count. Generate count) (count_of words)) None ≡ Some command → Finds given (word ∷ words)
    other true t f =
        let same : word ≡ codes "generate" = (bytes_eq-Decides word (codes "generate")).0 t in
        let counts = mapped (λ count. Generate count) (count_of words) command f in
        subst (λ w. Finds given (w ∷ words)) (sym same) (finds_generate given words counts.0 counts.1)
    other false t f = absurd (none-some command f)

    run : (b : Bool) → bytes_eq word (codes "run") ≡ b →
        cond b (option_map Run (run_of given words)) (cond (bytes_eq word (codes "generate")) (option_map (λ count. Generate count) (count_of words)) None) ≡ Some command → Finds given (word ∷ words)
    run true t f =
        let same : word ≡ codes "run" = (bytes_eq-Decides word (codes "run")).0 t in
        let options = mapped Run (run_of given words) command f in
        subst (λ w. Finds given (w ∷ words)) (sym same) (finds_run given words options.0 options.1)
    run false t f = other (bytes_eq word (codes "generate")) refl f

known : {X : Type 0} (o : Option X) → is_some o ≡ true → (x : X) × (o ≡ Some x)
known None e = absurd (cc)
known (Some x) e = (x, refl)

pub accepted : (given : List Label) (words : List Text) → is_some (command_of given words) ≡ true → Finds given words
accepted given words e = let command = known (command_of given words) e in finds given words command.0 command.1
