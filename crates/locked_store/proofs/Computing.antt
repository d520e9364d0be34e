-- What the secure element has answered, and what a look for its key found.
use Rattle.locked_store.proofs.Common.{IsElementAnswered, List, Option, Result, is_some, ℕ, ◌∙◌, ◌≡◌}
use Rattle.driver_dispatch.specs.Held.{HeldKeys}
use Rattle.secure_element_calls.specs.{declared.calls.ElementCall.ElementCall, declared.calls.NotComputed.NotComputed}
use Rattle.store_model.specs.Prelude.{Store}

-- devices that tell as much
pub as_known : (held other : Option HeldKeys) (id : ℕ) (call : ElementCall) (old new : List ℕ) (result : Result ℕ NotComputed) (m : Store) → is_some held ≡ is_some other →
    IsElementAnswered held id call old new result m → IsElementAnswered other id call old new result m
as_known held other id call old new result m same a = record {
  opaque = a.opaque;
  decided = a.decided;
  reply = λ tells. a.reply (same ∙ tells);
  buffer = λ tells. a.buffer (same ∙ tells);
  spoilt = a.spoilt;
  kept = a.kept;
  rest = a.rest;
}
