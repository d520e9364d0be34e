-- What the state of a derivation stands for.
use Rattle.multipart.specs.States.{StandsForOperation}
use Rattle.store_model.specs.Prelude.{Operation, DerivationWork}
use Rattle.derivation_states.specs.{Inputs.IsClearInputs, Inputs.HoldsInputs, Outputs.IsClearOutput, Outputs.HoldsOutput, declared.derivation.RunningDerivation.RunningDerivation, declared.DerivationState.DerivationState}

-- no input was given, and all buffers are zeros
pub record IsClearRunningDerivation (s : RunningDerivation) : Type 0 where
  pub inputs : IsClearInputs s.inputs
  pub output : IsClearOutput s.output

pub record HoldsRunning (s : RunningDerivation) (w : DerivationWork) : Type 0 where
  pub inputs : HoldsInputs s.inputs w
  pub output : HoldsOutput s.output w

abbrev pub IsClearDerivation : DerivationState → Type 0
IsClearDerivation s = IsClearRunningDerivation s.state.work

abbrev pub IsDerivationOperation : DerivationState → Operation DerivationWork → Type 0
IsDerivationOperation s op = StandsForOperation IsClearRunningDerivation HoldsRunning s.state op
