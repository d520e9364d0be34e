-- What a handle stands for.
use Rattle.std.specs.{Prelude.◌≡◌, Prelude.Option, Option.option_map}
use Rattle.store_model.specs.Prelude.{KeyCreation, HandleOperation}
use Rattle.operation_handles.specs.{States.AreStates, declared.handle.OperationHandle.OperationHandle}

-- the handle's operation is that of the states, held with the key of which the handle has the lease
pub record IsOperation (c : OperationHandle) (operation : HandleOperation) : Type 0 where
  pub key : Option KeyCreation
  pub leased : option_map (λ lease. lease.creation) c.lease ≡ option_map (λ creation. creation.number) key
  pub are : AreStates c.states key operation
