-- What calls count of a caller's budget.
use Rattle.std.specs.{Prelude.◌+◌, Prelude.ℕ, Prelude.Bool, Prelude.true, Prelude.false, Prelude.cond, Prelude.List, Prelude.Result, Result.is_ok}
use Rattle.psa_status.specs.declared.Status.{Status}
use Rattle.service_calls.specs.{declared.call.Call.Call, declared.call.Call.TheVariants.OnHandle, declared.handle_calls.HandleCall.TheVariants.Abort, declared.handle_calls.HandleCall.TheVariants.Setup, declared.output.Output.Output}
use Rattle.store_model.specs.Prelude.{HandleOperation, is_inactive}
use Rattle.callers.specs.Handles.{operation_at}

abbrev pub begins_operation : Call → Bool
begins_operation (OnHandle op (Setup setup)) = true
begins_operation _ = false

-- whether a call counts: not the abort of an operation that isn't inactive, whose setup has counted for both
abbrev pub is_counted : Call → List HandleOperation → Bool
is_counted (OnHandle op Abort) operations = is_inactive (operation_at operations op)
is_counted _ operations = true

-- what must be left of the budget for a call
abbrev pub asked_for : Call → List HandleOperation → ℕ
asked_for call operations = cond (is_counted call operations) (cond (begins_operation call) 2 1) 0

-- what an answered call has counted: a setup that is refused has no end that counts
abbrev pub counted_by : Call → List HandleOperation → Result Output Status → ℕ
counted_by call operations result = cond (is_counted call operations) (1 + cond (begins_operation call) (cond (is_ok result) 1 0) 0) 0
