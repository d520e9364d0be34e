-- One call on the service: on the store, or on a handle.
use Rattle.std.specs.Prelude.{ℕ, if◌then◌else◌}
use Rattle.store_model.specs.{Common.Call, Common.Destroy, Common.FaultMark, Common.Outcome, Common.Plain, Common.counted, Common.marked_reply, Step.step, KeyUse.destroyed, Operations.InError, Handles.HandleOperation, Handles.Service, Handles.Served, Handles.own_of, Handles.operation_of, Handles.with_own, Handles.with_operation, Handles.with_drawn, Handles.next_random}
use Rattle.store_model.specs.HandleCalls.{HandleCall, is_setup, handle_step}

pub data Request : Type 0 where
  OnStore : (call : Call) → Request
  OnHandle : (handle : ℕ) (call : HandleCall) → Request

-- a call on the store neither sees an operation nor changes one
abbrev pub on_store : Service → ℕ → Outcome → Served
on_store service caller outcome = record {
  service = with_own service outcome.store caller (with_drawn (own_of service caller) outcome.drawn);
  reply = outcome.reply;
}

-- a request in whose turn no device fails
abbrev pub plain_step : Service → ℕ → Request → Served
plain_step service caller (OnStore call) = on_store service caller (step service.store caller (next_random service caller) call)
plain_step service caller (OnHandle handle call) = handle_step service caller handle call

-- What is left where a device failed: a destruction removes its key all the same, and any other call on the store leaves the keys. A
-- setup leaves its handle, and any other call on a handle puts its operation in error.
abbrev pub failed_step : Service → ℕ → Request → Service
failed_step service caller (OnStore (Destroy id)) = record service { store = (destroyed service.store id).store }
failed_step service caller (OnStore call) = record service { store = counted service.store }
failed_step service caller (OnHandle handle call) =
    let left : HandleOperation = if is_setup call then operation_of service caller handle else InError in
    with_own service (counted service.store) caller (with_operation (own_of service caller) handle left)

-- a request and its mark
abbrev pub serve : Service → ℕ → Request → FaultMark → Served
serve service caller request Plain = plain_step service caller request
serve service caller request mark = record { service = failed_step service caller request; reply = marked_reply mark (plain_step service caller request).reply }
