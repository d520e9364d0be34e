-- A step of an operation, and whether the operation's key is still there.
use Rattle.std.specs.Prelude.{Bool, true, false}
use Rattle.psa_status.specs.declared.Status.TheVariants.{BadState, InvalidHandle}
use Rattle.store_model.specs.Prelude.{Operation, Inactive, InError, Active, After, stays, fails}

abbrev pub is_active : {W : Type 0} → Operation W → Bool
is_active (Active work) = true
is_active Inactive = false
is_active InError = false

-- a step or a finish: only of an active operation
abbrev pub on_active : {W : Type 0} → Operation W → (W → After W) → After W
on_active (Active work) f = f work
on_active operation f = stays operation BadState

-- the key that a step's operation was made with is gone
abbrev pub loses_key : {W : Type 0} → Operation W → After W
loses_key operation = on_active operation (λ work. fails InvalidHandle)

-- what a step makes of a family's own operation
abbrev pub by_key : {W : Type 0} → Bool → Operation W → (W → After W) → After W
by_key true own f = on_active own f
by_key false own f = loses_key own
