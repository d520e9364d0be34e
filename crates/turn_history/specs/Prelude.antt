-- The words of this crate that others cite, a line or two for each file that says them.
pub use Rattle.turn_history.specs.History.{StartsWith, calls_by, choose, entries_of, option_list}
pub use Rattle.turn_history.specs.Holdings.{Holding, held_by, with_held_by}
pub use Rattle.turn_history.specs.Views.{IsInTurn, IsOutside, Mine, OwnCalls, TURNS, account_of, after_turn, joined, longer, new_pass, watcher}
pub use Rattle.turn_history.specs.Passes.{AreNew, IsIdle, weight_of}
