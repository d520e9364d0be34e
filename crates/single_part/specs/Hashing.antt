-- Calls in one part without a key.
use Rattle.std.specs.Prelude.{ℕ}
use Rattle.store_model.specs.Prelude.{Reply, compared_reply, hash_reply}
use Rattle.service_calls.specs.{declared.store_calls.HashCall.HashCall, declared.store_calls.HashCall.TheVariants.Compute, declared.store_calls.HashCall.TheVariants.Compare}

-- the reply of a hash
abbrev pub hash_computed_by : HashCall → (room : ℕ) → Reply
hash_computed_by (Compute alg input) room = hash_reply alg.0 input.now room
hash_computed_by (Compare alg input hash) room = compared_reply alg.0 input.now hash.now
