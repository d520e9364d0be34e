-- The operations of a caller's four handles, as one of them changes.
use Rattle.std.specs.Prelude.{◌≡◌, ◌<◌, ℕ, ◌+◌, ◌-◌, Bool, false, not, count_by, get_or, List, [], ◌∷◌, ◌++◌, All, length, slice_set, Option, Some, None}
use Rattle.slot_table.specs.Lent.{Reading}
use Rattle.key_slots.specs.Holdings.{Pairs, names}
use Rattle.multipart.specs.Turns.{is_active}
use Rattle.store_model.specs.Prelude.{Inactive, is_inactive, HandleOperation}
use Rattle.operation_handles.specs.{Handles.IsOperation, declared.handle.OperationHandle.OperationHandle}
use Rattle.locked_store.specs.Prelude.{lease_pair}

-- each of the four handles stands for its operation, and one whose operation isn't active holds no lease
pub record AreOperations (cells : List OperationHandle) (operations : List HandleOperation) : Type 0 where
  pub cells_are : length cells ≡ 4
  pub count : length operations ≡ 4
  pub each : (i : ℕ) (c : OperationHandle) → i < 4 → c ≡ get_or cells i c → IsOperation c (get_or operations i Inactive)
  pub over : (i : ℕ) (c : OperationHandle) → i < 4 → c ≡ get_or cells i c → is_active (get_or operations i Inactive) ≡ false → c.lease ≡ None

-- each handle is inactive and holds no lease
abbrev pub AreIdle : List OperationHandle → Type 0
AreIdle cells = All (λ c. IsOperation c Inactive × (c.lease ≡ None)) cells

-- the operation of a handle, from 1 on
abbrev pub operation_at : List HandleOperation → (handle : ℕ) → HandleOperation
operation_at operations handle = get_or operations (handle - 1) Inactive

abbrev pub with_operation_at : List HandleOperation → (handle : ℕ) → HandleOperation → List HandleOperation
with_operation_at operations handle operation = slice_set operations (handle - 1) operation

-- how many handles wait for an abort or a finish
abbrev pub busy : List HandleOperation → ℕ
busy operations = count_by (λ o. not (is_inactive o)) operations

-- LEASES

abbrev pub pairs_of : Option Reading → Pairs
pairs_of None = []
pairs_of (Some lease) = lease_pair lease ∷ []

-- the leases that the handles hold
abbrev pub leases_of : List OperationHandle → Pairs
leases_of [] = []
leases_of (c ∷ cs) = pairs_of c.lease ++ leases_of cs

-- the same pairs, in any order
abbrev pub ArePairs : Pairs → Pairs → Type 0
ArePairs one other = (f : ℕ × ℕ → Bool) → count_by f one ≡ count_by f other

-- A handle's operation has become this one. The lease that it had, if it is over, was handed out, and the others are kept.
pub record IsChanged (old new : List OperationHandle) (operations : List HandleOperation) (handle : ℕ) (operation : HandleOperation) (lease : Option Reading) : Type 0 where
  pub stand : AreOperations new (with_operation_at operations handle operation)
  pub leases : ArePairs (pairs_of lease ++ leases_of new) (leases_of old)
  pub fewer : length (pairs_of lease) + length (leases_of new) ≡ length (leases_of old)
  pub mine : (l : Reading) → lease ≡ Some l → 0 < names l.slot (l.creation + 1) (leases_of old)

-- A handle's operation has become this one, which keeps one lease more.
pub record HoldsLease (old new : List OperationHandle) (operations : List HandleOperation) (handle : ℕ) (operation : HandleOperation) (lease : Reading) : Type 0 where
  pub stand : AreOperations new (with_operation_at operations handle operation)
  pub leases : ArePairs (leases_of new) (lease_pair lease ∷ leases_of old)
  pub more : length (leases_of new) ≡ length (leases_of old) + 1
