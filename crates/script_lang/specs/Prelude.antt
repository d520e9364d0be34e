-- The words of this crate that others cite, a line or two for each file that says them.
pub use Rattle.script_lang.specs.Pieces.{line_words, text_lines}
pub use Rattle.script_lang.specs.Fields.{Fields, attributes_at}
pub use Rattle.script_lang.specs.Commands.{request_of}
pub use Rattle.script_lang.specs.Lines.{AreOwners, IsOfSession, Read, Said, ScriptFails, or_bad_line, lines_of, nothing_read}
unfoldable pub use Rattle.script_lang.specs.Lines.{lines_at, script_of, words_at}
pub use Rattle.script_lang.specs.Replies.{AreAllKept, AreKept, ReplyLine, bytes_text, is_success, next_line, text_in, without_rank}
unfoldable pub use Rattle.script_lang.specs.Replies.{reply_text, unranked_text}
pub use Rattle.script_lang.specs.PrintedOrder.{AreCalls, Turn, id_given, numbered, printed, replies_to, turns_from, turns_of}
