-- What several proofs of this crate cite of its words, and of other crates'.
pub use Rattle.command_words.specs.declared.command.Command.{Command}
pub use Rattle.psa_command.specs.{Commands.IsSaidBy, Commands.EndsBy, Commands.HasStore, Commands.IsDonePlainly, Commands.IsOverQuota, Commands.KeepsQuotas, Commands.StatesOwners, Commands.IsReadable, Commands.IsRun, Commands.IsUnrun, Commands.text_by, Commands.options_of, Ends.IsBeforeOpening, Ends.IsOfImage, Ends.IsOfReading, Ends.IsWritten, Ends.exit_of, Ends.exit_unanswered, declared.exit.Exit.Exit}
pub use Rattle.psa_command.specs.declared.exit.Exit.TheVariants.{DamagedCell, DiskFault, Done, Memory, OverQuota, NotAStore, ReadFault, Script, Usage, WriteFault}
pub use Rattle.owner_space.specs.Naming.{names_by}
pub use Rattle.session_host.specs.{Runs.AreAnswered, Runs.IsUnanswered}
pub use Rattle.script_lang.specs.{Prelude.AreAllKept, Prelude.Read, Prelude.ReplyLine, Prelude.Said, Prelude.ScriptFails, Prelude.or_bad_line, Prelude.line_words, Prelude.nothing_read, Prelude.text_lines, declared.faults.ScriptFault.ScriptFault, declared.replies.Replies.Replies}
unfoldable pub use Rattle.script_lang.specs.Prelude.{lines_at, script_of, words_at}
pub use Rattle.std.proofs.{lemmas.Bool.Decides.leb_tells, lemmas.Bool.Decides.nat_tests, lemmas.Result.MatchResult-at_err, lemmas.Result.MatchResult-at_ok}
pub use Rattle.std.specs.Io.KnownBytes.{Appends, Consumes}
