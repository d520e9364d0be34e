-- What calls make of the operation at a handle.
use Rattle.std.specs.Prelude.{◌≡◌, ℕ, Bool, List, Option, Some, None}
use Rattle.psa_status.specs.Rows.{first_row}
use Rattle.random_streams.specs.RandomWords.{RandomStream, next_bytes}
use Rattle.secret_bytes.specs.Buffer.{bytes_of}
use Rattle.slot_table.specs.Lent.{Reading}
use Rattle.service_calls.specs.{Meanings.model_step, declared.steps.Step.Step}
use Rattle.store_model.specs.Prelude.{DerivationWork, key_step_rows, with_key, without, Deriving, HandleOperation, Held, KeyCreation, derivation_part, is_alive, key_of_operation, next_random, operation_of, part_of, Active, After, InError, Service}
use Rattle.operation_handles.specs.{Steps.stepped_by, declared.handle.OperationHandle.OperationHandle}
use Rattle.callers.specs.Handles.{AreOperations, IsChanged, operation_at}

-- what a step makes of a handle's operation, by whether its key is there
abbrev pub stepped_at : List HandleOperation → (op : ℕ) → (alive : Bool) → RandomStream → Step → (room : ℕ) → After Held
stepped_at operations op alive stream step room = stepped_by alive (next_bytes stream 16) (operation_at operations op) (model_step step room)

-- an operation with another key
abbrev pub rekeyed : Option KeyCreation → HandleOperation → HandleOperation
rekeyed key (Active held) = Active (record held { key = key })
rekeyed key operation = operation

-- A service has this operation at a caller's handle, perhaps with another key, and there is that key where `alive` says so. The
-- caller draws the random words of this stream.
pub record IsAsked (service : Service) (caller handle : ℕ) (operation : HandleOperation) (stream : RandomStream) (alive : Bool) : Type 0 where
  pub key : Option KeyCreation
  pub operation_is : operation_of service caller handle ≡ rekeyed key operation
  pub lives : alive ≡ is_alive service.store (key_of_operation (operation_of service caller handle))
  pub random : (count : ℕ) → next_random service caller count ≡ next_bytes stream count

-- DERIVATIONS

-- the operation that has taken a key at its step
abbrev pub with_secret : DerivationWork → KeyCreation → Reading → HandleOperation
with_secret w key lease = Active (record { key = Some key; work = Deriving (with_key w (bytes_of lease.buffer)) })

-- the operation of which so many next bytes are taken
abbrev pub without_bytes : HandleOperation → DerivationWork → (bytes : ℕ) → HandleOperation
without_bytes operation w bytes = Active (record { key = key_of_operation operation; work = Deriving (without w bytes) })

-- a derivation runs, and its rows let it take a key at the step
abbrev pub MayTakeKey : HandleOperation → (step : ℕ) → Type 0
MayTakeKey operation step = (w : DerivationWork) × (part_of derivation_part operation ≡ Active w) × (first_row (key_step_rows w step) ≡ None)

-- a derivation that runs is in error from then on, and its lease is handed out
abbrev pub FailsDerivation : (old new : List OperationHandle) → (op : ℕ) → Option Reading → Type 0
FailsDerivation old new op lease =
    (operations : List HandleOperation) (w : DerivationWork) → AreOperations old operations → part_of derivation_part (operation_at operations op) ≡ Active w →
    IsChanged old new operations op InError lease
