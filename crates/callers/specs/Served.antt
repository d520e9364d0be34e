-- What a caller's methods say of a call, over the caller before and after it.
use Rattle.std.specs.Prelude.{◌≡◌, ◌<◌, ◌≤◌, ◌+◌, ℕ, List, length, Result, Err}
use Rattle.psa_status.specs.{declared.Status.Status, declared.Status.TheVariants.PassWorn}
use Rattle.service_calls.specs.{Meanings.model_request, declared.call.Call.Call, declared.output.Output.Output}
use Rattle.store_model.specs.Prelude.{HandleOperation}
use Rattle.locked_store.specs.Prelude.{World}
use Rattle.callers.specs.{Budget.asked_for, Budget.counted_by, Called.IsAnswered, Handles.AreOperations, declared.caller.Caller.Caller}

module _ {D A C : Type 0} where
  -- the call was answered with its rank, and this is what its output buffer had and has
  abbrev pub IsServed : World D A C → (old new : Caller D A C) → Call → ℕ × Result Output Status → (shown given : List ℕ) → Type 0
  IsServed w old new call result shown given = IsAnswered w old.pass.me.0 new.pass.me.0 (model_request call (length shown)) result.0 result.1 shown given

  -- so was a call that leaves its output buffer of so many bytes, whatever that has
  abbrev pub IsServedUnwritten : World D A C → (old new : Caller D A C) → Call → (room : ℕ) → ℕ × Result Output Status → Type 0
  IsServedUnwritten w old new call room result = (buffer : List ℕ) → IsAnswered w old.pass.me.0 new.pass.me.0 (model_request call room) result.0 result.1 buffer buffer

  -- the budget sufficed for the call, and this is what it has counted
  abbrev pub HasCounted : (old new : Caller D A C) → (worn : ℕ) → Call → Result Output Status → Type 0
  HasCounted old new worn call result =
      (operations : List HandleOperation) → AreOperations old.handles.list.items operations →
      (old.spent + asked_for call operations ≤ worn) × (new.spent ≡ old.spent + counted_by call operations result)

  -- the budget doesn't suffice for the call, and nothing has changed
  abbrev pub IsOverBudget : (old new : Caller D A C) → (worn : ℕ) → Call → Result Output Status → (shown given : List ℕ) → Type 0
  IsOverBudget old new worn call result shown given =
      (operations : List HandleOperation) → AreOperations old.handles.list.items operations →
      (worn < old.spent + asked_for call operations) × (result ≡ Err PassWorn) × (new ≡ old) × (given ≡ shown)
