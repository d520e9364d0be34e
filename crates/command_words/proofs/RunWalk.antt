-- `clap` takes the words of a run that the grammar takes, and keeps their values.
use Rattle.std.proofs.Common.{rules}
use Rattle.command_words.proofs.Common.{Held, Row, Rule, Rules, RunOption, Seed, Shape, Texts, Waiting, Walk, Workers, after_words, arg_by_id, arg_by_long, idle, if_new, is_of, new_shape, none-some, option_id, option_in, reacted, same_Some, settle_passes, settled, turn_passes, use_passes, walk_passes, walked, with_option, Bool, List, None, Option, Some, [], bytes_eq, codes, false, fold, option_and_then, refl, subst, sym, true, ℕ, ◌∙◌, ◌∷◌, ◌≡◌}
use Rattle.clap.specs.Walk.{option as for_option}
use Rattle.command_words.specs.Reading.{settled_texts as settled_state}
use Rattle.command_words.proofs.{Hyphens.IsBare, Hyphens.AreBare, OptionWords.long_of_option, OptionWords.not_dashes, Rows.option_built, Rows.HasValues, Rows.no_row, Rows.has_next, Rows.same_id, Settings.text_at, Settings.put, Settings.put_at, Settings.same_option, Settings.is_of_itself, Settings.with_is}

-- what `clap` builds of `run`
abbrev pub run_rules : List Rule
run_rules = option_built Workers ∷ option_built Seed ∷ option_built Rules ∷ []

abbrev pub run_shape : Shape
run_shape = record (new_shape (codes "run")) { rules = run_rules; no_binary_name = true; disable_help_flag = true; disable_help_subcommand = true; is_built = true }

-- between two words of a run
abbrev pub between : Held → Waiting → Walk
between held waiting = record { held = held; waiting = waiting; position = 1; is_trailing = false; stopped = None }

abbrev pub waiting_for : Option RunOption → Waiting
waiting_for None = idle
waiting_for (Some option) = for_option (option_id option)

-- the word passes, and leaves the walk so
record Turns (before : Walk) (word : List ℕ) (after : Walk) : Type 0 where
  passes : turn_passes run_shape [] before word ≡ true
  next : walked run_rules [] before word ≡ after

by_long : (option : RunOption) → arg_by_long run_rules (option_id option) ≡ Some (option_built option)
by_long Workers = refl
by_long Seed = refl
by_long Rules = refl

by_id : (option : RunOption) → arg_by_id run_rules (option_id option) ≡ Some (option_built option)
by_id Workers = refl
by_id Seed = refl
by_id Rules = refl

itself : (option : RunOption) → bytes_eq (option_id option) (option_id option) ≡ true
itself option = same_id option option [] ∙ is_of_itself option []

-- a name alone: its option waits for a value
name_turn : (held : Held) (word : List ℕ) (option : RunOption) → option_in word ≡ Some (option, None) → settle_passes run_rules false held ≡ true →
    Turns (between held idle) word (between (record (settled run_rules held) { pending = Some (option_id option, []) }) (waiting_for (Some option)))
unfolding walked
name_turn held word option e settles = record {
  passes = rw (not_dashes word option None e, long_of_option word option None e, by_long option, settles) refl;
  next = rw (not_dashes word option None e, long_of_option word option None e, by_long option) refl;
}

-- a name and a value in one word
setting_turn : (held : Held) (word : List ℕ) (option : RunOption) (value : List ℕ) → option_in word ≡ Some (option, Some value) → settle_passes run_rules false held ≡ true →
    use_passes false (option_built option) (value ∷ []) (settled run_rules held).rows ≡ true →
    Turns (between held idle) word (between (reacted run_rules (option_built option) (value ∷ []) held) idle)
unfolding walked
setting_turn held word option value e settles uses = record {
  passes = rw (not_dashes word option (Some value) e, long_of_option word option (Some value) e, by_long option, settles, uses) refl;
  next = rw (not_dashes word option (Some value) e, long_of_option word option (Some value) e, by_long option) refl;
}

-- a value that was waited for
value_turn : (rows : List Row) (skip : ℕ) (value : List ℕ) (option : RunOption) → IsBare value →
    Turns (between (record { rows = rows; pending = Some (option_id option, []); skip = skip }) (waiting_for (Some option))) value
    (between (record { rows = rows; pending = Some (option_id option, value ∷ []); skip = skip }) idle)
unfolding walked
value_turn rows skip value option bare = search rules

-- the end of a run's words: the value that is left passes, and the rows have the values
pub record Ends (texts : Texts) (held : Held) : Type 0 where
  pub settles : settle_passes run_rules false held ≡ true
  pub values : HasValues texts (settled run_rules held).rows

-- values that stay
abbrev pub Stay : Texts → Texts → Type 0
Stay texts final = (option : RunOption) (value : List ℕ) → text_at texts option ≡ Some value → text_at final option ≡ Some value

-- the words after those that gave some values pass, and the values stay
pub record Follows (texts final : Texts) (words : List (List ℕ)) (walk : Walk) : Type 0 where
  pub passes : walk_passes run_shape [] walk words ≡ true
  pub ends : Ends final (fold (walked run_rules []) walk words).held
  pub stay : Stay texts final

after_turn : (texts next final : Texts) (word : List ℕ) (words : List (List ℕ)) (before after : Walk) → Turns before word after → Stay texts next → Follows next final words after → Follows texts final (word ∷ words) before
unfolding walk_passes
after_turn texts next final word words before after turn keeps follows = search rules

-- a value passes where its option has none yet
uses : (option : RunOption) (texts : Texts) (rows : List Row) (value : List ℕ) → HasValues texts rows → text_at texts option ≡ None → use_passes false (option_built option) (value ∷ []) rows ≡ true
uses option texts rows value has new = rw (no_row option texts rows has new) refl

-- what stands while words are read: the values so far, and the option that waits for one
abbrev pub Stands : Texts → Option RunOption → Held → Type 0
Stands texts None held = Ends texts held
Stands texts (Some option) held = (held.pending ≡ Some (option_id option, [])) × HasValues texts held.rows

put_stays : (texts : Texts) (option : RunOption) (value : List ℕ) → text_at texts option ≡ None → Stay texts (put texts option value)
put_stays texts option value new other text e = go (is_of other (option, value)) refl
  where
    go : (b : Bool) → is_of other (option, value) ≡ b → text_at (put texts option value) other ≡ Some text
    go true t =
        let same : option ≡ other = same_option option other value t in
        absurd (none-some text (sym (subst (λ o. text_at texts o ≡ None) same new) ∙ e))
    go false t = put_at texts option other value ∙ rw t e

-- the value of an option that a further word gives, where the words go on
record Goes (texts : Texts) (option : RunOption) (value : List ℕ) (words : List (List ℕ)) (final : Texts) : Type 0 where
  new : text_at texts option ≡ None
  on : after_words (put texts option value, None) words ≡ Some final

goes : (texts : Texts) (option : RunOption) (value : List ℕ) (words : List (List ℕ)) (final : Texts) →
    option_and_then (λ next. after_words next words) (settled_state (with_option texts option value)) ≡ Some final → Goes texts option value words final
goes texts option value words final e = go (text_at texts option) refl (rw (← with_is texts option value) e)
  where
    go : (old : Option (List ℕ)) → text_at texts option ≡ old → option_and_then (λ next. after_words next words) (settled_state (if_new old (put texts option value))) ≡ Some final → Goes texts option value words final
    go None is f = record { new = is; on = f }
    go (Some text) is f = absurd (none-some final f)

first_value : (option : RunOption) (texts : Texts) (value : List ℕ) → text_at (put texts option value) option ≡ Some value
first_value option texts value = rw (put_at texts option option value, is_of_itself option value) refl

-- what follows one word, where the words behind it follow
abbrev Rest : List (List ℕ) → Texts → Type 0
Rest words final = (texts : Texts) (waiting : Option RunOption) (held : Held) → after_words (texts, waiting) words ≡ Some final → Stands texts waiting held → Follows texts final words (between held (waiting_for waiting))

follows_value : (texts final : Texts) (option : RunOption) (value : List ℕ) (words : List (List ℕ)) (rows : List Row) (skip : ℕ) → AreBare final → Rest words final →
    option_and_then (λ next. after_words next words) (settled_state (with_option texts option value)) ≡ Some final → HasValues texts rows →
    Follows texts final (value ∷ words) (between (record { rows = rows; pending = Some (option_id option, []); skip = skip }) (waiting_for (Some option)))
follows_value texts final option value words rows skip bare rest e has =
    let g = goes texts option value words final e in
    let held : Held = record { rows = rows; pending = Some (option_id option, value ∷ []); skip = skip } in
    let ends : Ends (put texts option value) held = record {
      settles = rw (by_id option) (uses option texts rows value has g.new);
      values = rw (by_id option) (has_next texts rows option value g.new has);
    } in
    let others = rest (put texts option value) None held g.on ends in
    after_turn texts (put texts option value) final value words _ _
    (value_turn rows skip value option (bare option value (others.stay option value (first_value option texts value))))
    (put_stays texts option value g.new) others

follows_setting : (texts final : Texts) (option : RunOption) (value word : List ℕ) (words : List (List ℕ)) (held : Held) → option_in word ≡ Some (option, Some value) → Rest words final →
    option_and_then (λ next. after_words next words) (settled_state (with_option texts option value)) ≡ Some final → Ends texts held →
    Follows texts final (word ∷ words) (between held idle)
follows_setting texts final option value word words held is rest e ends =
    let g = goes texts option value words final e in
    let passes = uses option texts (settled run_rules held).rows value ends.values g.new in
    let after = reacted run_rules (option_built option) (value ∷ []) held in
    let next : Ends (put texts option value) after = record {
      settles = refl;
      values = has_next texts (settled run_rules held).rows option value g.new ends.values;
    } in
    after_turn texts (put texts option value) final word words _ _ (setting_turn held word option value is ends.settles passes)
    (put_stays texts option value g.new) (rest (put texts option value) None after g.on next)

follows_name : (texts final : Texts) (option : RunOption) (word : List ℕ) (words : List (List ℕ)) (held : Held) → option_in word ≡ Some (option, None) → Rest words final →
    after_words (texts, Some option) words ≡ Some final → Ends texts held → Follows texts final (word ∷ words) (between held idle)
follows_name texts final option word words held is rest e ends =
    after_turn texts texts final word words _ _ (name_turn held word option is ends.settles) (λ o v f. f)
    (rest texts (Some option) (record (settled run_rules held) { pending = Some (option_id option, []) }) e (refl, ends.values))

pub follows : (words : List (List ℕ)) (final : Texts) → AreBare final → Rest words final
unfolding after_words walk_passes
follows [] final bare texts None held e s =
    let same : texts ≡ final = same_Some texts final e in
    record { passes = refl; ends = subst (λ t. Ends t held) same s; stay = λ option value f. subst (λ t. text_at t option ≡ Some value) same f }
follows [] final bare texts (Some option) held e s = absurd (none-some final e)
follows (word ∷ words) final bare texts (Some option) held e s =
    let same : held ≡ record { rows = held.rows; pending = Some (option_id option, []); skip = held.skip } = λ i. record { rows = held.rows; pending = s.0 i; skip = held.skip } in
    subst (λ h. Follows texts final (word ∷ words) (between h (waiting_for (Some option)))) (sym same)
    (follows_value texts final option word words held.rows held.skip bare (follows words final bare) e s.1)
follows (word ∷ words) final bare texts None held e s = go (option_in word) refl (follows words final bare) e
  where
    go : (found : Option (RunOption × Option (List ℕ))) → option_in word ≡ found → Rest words final →
        option_and_then (λ next. after_words next words) (elim found [
          | None ↦ None
          | Some (option, None) ↦ Some (texts, Some option)
          | Some (option, Some value) ↦ settled_state (with_option texts option value)
        ]) ≡ Some final → Follows texts final (word ∷ words) (between held idle)
    go None is rest f = absurd (none-some final f)
    go (Some (option, None)) is rest f = follows_name texts final option word words held is rest f s
    go (Some (option, Some value)) is rest f = follows_setting texts final option value word words held is rest f s
