-- The generator's lines in any order.
use Rattle.std.specs.Prelude.{ℕ, ◌≡◌, List, [], None, All, map}
use Rattle.std.specs.FinMap as keys
use Rattle.store_model.specs.Prelude.{Plain, Service, Entry}
use Rattle.owner_space.specs.declared.names.Names.TheVariants.{Unowned}
use Rattle.script_lang.specs.Prelude.{lines_of, AreCalls, turns_from, turns_of, replies_to, ReplyLine, without_rank}
use Rattle.line_generator.specs.{Generator.generator_lines, Summary.summary_of}

-- A history is an order of the first so many lines of the generator, which keeps each session's own. No device failed.
pub record IsOrder (start : Service) (count : ℕ) (history : List Entry) : Type 0 where
  pub own : (session : ℕ) → AreCalls Unowned [] (lines_of session (generator_lines count)) (turns_of session (turns_from Unowned 0 start history))
  pub plain : All (λ e. e.mark ≡ Plain) history

-- the reply lines of all sessions
abbrev pub reply_lines_of : Service → List Entry → List ReplyLine
reply_lines_of start history = replies_to 16 (λ session. turns_of session (turns_from Unowned 0 start history))

-- every order has the same replies, but for the ranks, from any start that has no key of the identifier 0, which is no key's
abbrev pub RepliesInAnyOrder : Type 0
RepliesInAnyOrder =
    (start : Service) (count : ℕ) (one other : List Entry) → keys.get start.store.keys 0 ≡ None → IsOrder start count one → IsOrder start count other →
    map without_rank (reply_lines_of start one) ≡ map without_rank (reply_lines_of start other)

-- and so the same summary
abbrev pub SummaryInAnyOrder : Type 0
SummaryInAnyOrder =
    (start : Service) (count : ℕ) (one other : List Entry) → keys.get start.store.keys 0 ≡ None → IsOrder start count one → IsOrder start count other →
    summary_of (reply_lines_of start one) ≡ summary_of (reply_lines_of start other)
