-- What is known at the end of a lock.
use Rattle.std.specs.Prelude.{◌≡◌, ℕ, ◌<◌, ◌≤◌, List, [], All, replicate, Option}
use Rattle.turn_history.specs.{declared.pass.Account.Account, History.entries_of, History.calls_by, History.StartsWith, Holdings.Holding}

-- the value x stands for one history, which the passes of these accounts have seen beginnings of
pub record Closing {V E B : Type 0} (by : E → ℕ) (stands : V → List E → List Holding → Type 0) (base : V → B) (opening : B) (passes : ℕ) (x : V) (accounts : List (Account E)) : Type 0 where
  pub turns : List (Option E)
  pub stood : stands x (entries_of turns) (replicate passes [])
  pub same_base : base x ≡ opening
  -- a pass that the lock was made with signs each entry
  pub signed : All (λ (e : E). (0 < by e) × (by e ≤ passes)) (entries_of turns)
  pub seen : All (λ (a : Account E). StartsWith turns a.seen) accounts
  -- and those that were handed in have made no other calls
  pub called : All (λ (a : Account E). 0 < a.number → calls_by by a.number (entries_of turns) ≡ a.calls) accounts
