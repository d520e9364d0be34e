-- What a state stands for, by its phase.
use Rattle.store_model.specs.Operations as model
use Rattle.store_model.specs.Prelude.{Operation}
use Rattle.multipart.specs.declared.Phase.{Phase}
use Rattle.multipart.specs.declared.Phase.TheVariants as phase

-- A state of this phase stands for an operation of the same one. Of an active one it holds the work; any other is clear.
abbrev pub StandsFor : {W : Type 0} → Phase → (clear : Type 0) → (holds : W → Type 0) → Operation W → Type 0
StandsFor phase.Active clear holds (model.Active work) = holds work
StandsFor phase.Inactive clear holds model.Inactive = clear
StandsFor phase.InError clear holds model.InError = clear
StandsFor _ clear holds _ = ⊥

-- An active operation comes to this phase: where it goes on, it holds the work.
abbrev pub LeadsTo : {W : Type 0} → Phase → (holds : W → Type 0) → Operation W → Type 0
LeadsTo phase holds op = StandsFor phase (Unit {0}) holds op
