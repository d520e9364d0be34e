-- What several proofs of this crate cite of its words, and of other crates'.
pub use Rattle.admission.proofs.Texts.{behind, first_of, first_word, last_word, read_none, read_on}
pub use Rattle.admission.specs.{Apply.after_rules, Apply.is_one_of, Words.label_named, Words.label_word, Words.labels_in, Words.labels_named}
pub use Rattle.clap.proofs.WalkLemmas.{first_value-rows, walk_stopped}
pub use Rattle.clap.specs.{Lexer.long_of, Lexer.long_of_rest, Lexer.short_of, Lexer.short_of_rest, Lexer.strip_byte, Simple.Shape, Simple.app_of_fields, Simple.entered, Simple.filled, Simple.names_of, Simple.new_shape, Simple.on_top, Simple.with_index, Takes.entered_passes, Takes.is_valid, Takes.level_passes, Takes.settle_passes, Takes.turn_passes, Takes.use_passes}
unfoldable pub use Rattle.clap.specs.Takes.{walk_passes}
pub use Rattle.clap.specs.Walk.{Held, Names, Row, Rule, Waiting, Walk, all_of, arg_by_id, arg_by_long, at_row, finished, has_row, idle, more_values, nothing_held, reacted, rows_after, settled, used, walk, with_default, without}
unfoldable pub use Rattle.clap.specs.Walk.{walked}
pub use Rattle.clap.specs.Words.{App, Text, app_of, built, first_value, found_of, is_simple, new_rule, rows_of, rule_of, subcommand_name_of, subcommand_of, subcommand_rows_of, takes, with_rule, with_subcommand}
pub use Rattle.command_words.specs.{Options.Setting, Options.Texts, Options.all_options, Options.are_single, Options.is_equals, Options.is_of, Options.option_in, Options.option_name, Options.option_named, Options.texts_of, Options.value_of, Parser.asked_of, Parser.bare_command, Parser.generate_command, Parser.option_id, Parser.option_rule, Parser.program, Parser.run_command, Parser.texts_in}
unfoldable pub use Rattle.command_words.specs.Options.{options_in}
pub use Rattle.command_words.specs.{Reading.after_word, Reading.at_end, Reading.if_new, Reading.settled_texts, Reading.State, Reading.state, Reading.texts, Reading.with_option, Values.seed_in, Values.value_or, Words.run_options, declared.command.Command.TheVariants.Generate, declared.command.Command.TheVariants.Run, declared.command.RunOptions.RunOptions, declared.options.RunOption.RunOption}
unfoldable pub use Rattle.command_words.specs.Reading.{after_words}
unfoldable pub use Rattle.command_words.specs.Values.{number_to}
unfoldable pub use Rattle.command_words.specs.Words.{command_of, count_of, run_of}
pub use Rattle.command_words.specs.declared.options.RunOption.TheVariants.{Rules, Seed, Workers}
pub use Rattle.policy_rules.specs.declared.narrowing.Label.{Label}
pub use Rattle.std.proofs.{lemmas.Fmt.decimal_injective, lemmas.Fmt.first_decimal, lemmas.Fmt.parse-decimal, lemmas.List.Folds.find-append, lemmas.Option.none-some, lemmas.Option.option_and_then_some, lemmas.Option.same_Some, lemmas.Result.IfErr-weaker, lemmas.Result.IfOk-weaker, lemmas.Slice.Eq.bytes_eq-Decides, lemmas.Str.Pattern.split_once_first}
pub use Rattle.std.specs.{List.after_first, List.before_first, List.list_all, List.list_any, List.onto_first, List.position_or_len, List.range_with_len, List.slice_split, Option.option_or, Fmt.decimal, Str.IsUtf8}
pub use Rattle.std.proofs.lemmas.Bool.{and_left, and_right, false_from_ne_true, not-false}
pub use Rattle.std.proofs.Common.{Bool, List, None, Option, Some, [], ap, append-nil, ap₂, arith, bytes_eq, codes, drop, false, fold, is_some, length, map, not, option_and_then, option_map, refl, rules, subst, sym, true, ℕ, ◌∙◌, ◌∷◌, ◌≡◌}
