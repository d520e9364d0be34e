-- Operations in several parts.
use Rattle.std.specs.Prelude.{ℕ, Bool, true, false, Option, Some, None}
use Rattle.store_model.specs.Common.{BadState, InvalidHandle, Reply, Status, done, refusal}

-- an operation is inactive, has failed, or is active with its work: all that was given to it, whole, however it was cut
pub data Operation (W : Type 0) : Type 0 where
  Inactive : Operation W
  InError : Operation W
  Active : (work : W) → Operation W

-- what one call makes of an operation: how it stands afterwards, the reply, and the random bytes that were drawn
pub record After (W : Type 0) : Type 0 where
  pub operation : Operation W
  pub reply : Reply
  pub drawn : ℕ

-- the operation stays as it was
abbrev pub stays : {W : Type 0} → Operation W → Status → After W
stays operation status = record { operation = operation; reply = refusal status; drawn = 0 }

-- a refusal puts the operation in error
abbrev pub fails : {W : Type 0} → Status → After W
fails status = record { operation = InError; reply = refusal status; drawn = 0 }

-- the operation goes on
abbrev pub goes_on : {W : Type 0} → W → Reply → After W
goes_on work reply = record { operation = Active work; reply = reply; drawn = 0 }

-- the operation has ended
abbrev pub ends : {W : Type 0} → Reply → After W
ends reply = record { operation = Inactive; reply = reply; drawn = 0 }

-- what a step or a finish does where no row of its table holds
abbrev pub unless_failed : {W : Type 0} → Option Status → After W → After W
unless_failed None after = after
unless_failed (Some status) after = fails status

-- a setup: only of an inactive operation, and a refused one leaves it as it was
abbrev pub set_up : {W : Type 0} → Operation W → Option Status → W → After W
set_up Inactive None work = goes_on work done
set_up Inactive (Some status) work = stays Inactive status
set_up other refused work = stays other BadState

-- a step on an operation that was made with a key, by whether that key is still there
abbrev pub with_live_key : {W : Type 0} → Bool → After W → After W
with_live_key true after = after
with_live_key false after = fails InvalidHandle

abbrev pub is_inactive : {W : Type 0} → Operation W → Bool
is_inactive Inactive = true
is_inactive _ = false
