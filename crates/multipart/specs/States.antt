-- What the state of an operation stands for.
use Rattle.std.specs.{Prelude.Option, Prelude.IfSome, Option.IsSomeAnd}
use Rattle.store_model.specs.Prelude.{Operation}
use Rattle.multipart.specs.{declared.state.OperationState.OperationState, Phases.StandsFor}

-- by when what it runs is clear, and when that holds the work
abbrev pub StandsForOperation : {W S : Type 0} → (is_clear : W → Type 0) (holds : W → S → Type 0) → OperationState W → Operation S → Type 0
StandsForOperation is_clear holds state op = StandsFor state.phase (is_clear state.work) (holds state.work) op

-- the same of a state that has nothing that runs before its first operation begins
abbrev pub StandsForOptional : {W S : Type 0} → (is_clear : W → Type 0) (holds : W → S → Type 0) → OperationState (Option W) → Operation S → Type 0
StandsForOptional is_clear holds state op = StandsForOperation (λ o. IfSome o is_clear) (λ o said. IsSomeAnd o (λ work. holds work said)) state op
