-- What the output of a derivation stands for: the bytes that follow those that were taken.
use Rattle.std.specs.Prelude.{◌≡◌, ◌+◌, ◌*◌, ◌-◌, ◌≤◌, ℕ, List, false, true, is_some, drop, take, replicate}
use Rattle.hash_ops.specs.Hashes.{digest_length}
use Rattle.store_model.specs.Prelude.{DerivationWork}
use Rattle.derivation_states.specs.{Streams.block_at, Inputs.HoldsInputs, declared.inputs.Inputs.Inputs, declared.output.OutputState.OutputState}
use Rattle.key_policy.specs.Names.{NamesDerivation}

pub record IsClearOutput (o : OutputState) : Type 0 where
  pub capacity : o.capacity ≡ 0
  pub number : o.number ≡ 0
  pub used : o.used ≡ 0
  pub length : o.length ≡ 0
  pub block : o.block ≡ replicate 64 0

-- the current block, which is whole, and how many of its bytes were taken; block 0 has none
pub record IsRunning (o : OutputState) (w : DerivationWork) : Type 0 where
  pub kdf : NamesDerivation w.alg o.kdf
  pub capacity : o.capacity ≡ w.capacity
  pub place : w.taken + o.length ≡ digest_length o.kdf.hash * o.number + o.used
  pub block : take o.length o.block ≡ block_at w o.number
  pub none : o.number ≡ 0 → o.length ≡ 0
  pub whole : 1 ≤ o.number → o.length ≡ digest_length o.kdf.hash

-- there is no current block before the first byte is taken, and none is taken before the secret is there
pub record HoldsOutput (o : OutputState) (w : DerivationWork) : Type 0 where
  pub running : IsRunning o w
  pub fresh : w.taken ≡ 0 → o.number ≡ 0
  pub begun : is_some w.secret ≡ false → w.taken ≡ 0

-- these are the inputs and the output of a derivation that has its secret, and so can give bytes
pub record HasSecret (i : Inputs) (o : OutputState) (w : DerivationWork) : Type 0 where
  pub inputs : HoldsInputs i w
  pub output : HoldsOutput o w
  pub secret : is_some w.secret ≡ true

-- the last bytes that were taken of the current block
abbrev pub last_taken : OutputState → ℕ → List ℕ
last_taken o count = take count (drop (o.used - count) o.block)
