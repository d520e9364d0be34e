-- Passes, and lists of them.
use Rattle.std.specs.Prelude.{◌≡◌, ℕ, ◌+◌, ◌<◌, false, List, [], ◌∷◌, Option, length, slice_index_or}
use Rattle.atomic_table.specs.{Seated.TableId, declared.shared.Seat.Seat}
use Rattle.turn_history.specs.{declared.pass.Account.Account, declared.pass.View.View, Views.account_of, Views.new_pass}

module _ {V E B : Type 0} where
  -- a pass of this lock that is in no turn and has nothing out of the value
  abbrev pub IsIdle : TableId → Seat (Option V) (View E B) → Type 0
  IsIdle lock p = (p.table_id ≡ lock) × (p.me.0.in_turn ≡ false) × (p.me.0.holding ≡ []) × (p.me.1 ≡ [])

  abbrev pub accounts_of : List (Seat (Option V) (View E B)) → List (Account E)
  accounts_of [] = []
  accounts_of (p ∷ ps) = account_of p.me.0 ∷ accounts_of ps

  -- how many of the passes that the lock was made with these stand for
  abbrev pub weight_of : List (Seat (Option V) (View E B)) → ℕ
  weight_of [] = 0
  weight_of (p ∷ ps) = p.me.0.weight + weight_of ps

  -- the passes of a new lock: none has seen anything, and their numbers rise from 1
  pub record AreNew (lock : TableId) (b : B) (count : ℕ) (ps : List (Seat (Option V) (View E B))) : Type 0 where
    pub counted : length ps ≡ count
    pub each : (k : ℕ) (d : Seat (Option V) (View E B)) → k < length ps → ((slice_index_or ps k d).table_id ≡ lock) × ((slice_index_or ps k d).me ≡ (new_pass b (k + 1), []))
