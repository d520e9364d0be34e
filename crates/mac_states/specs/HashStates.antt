-- What a hash in several parts stands for.
use Rattle.std.specs.Prelude.{◌≡◌, length}
use Rattle.hash_ops.specs.{declared.Hash.Hash, States.HashHolds, States.IsEmpty}
use Rattle.hash_ops.specs.Hashes as hashes
use Rattle.store_model.specs.Prelude.{digest, hash_length_of, low_byte, Operation, HashWork}
use Rattle.multipart.specs.States.{StandsForOperation}
use Rattle.mac_states.specs.{declared.running_hash.RunningHash.RunningHash, declared.hash_state.HashOpState.HashOpState}

-- the hasher is one of the algorithm's function, and has taken in the message
pub record HoldsHash (s : RunningHash) (work : HashWork) : Type 0 where
  pub total : s.total.bytes ≡ length work.message
  pub which : Hash
  pub digest : hashes.hash_of which ≡ digest (low_byte work.alg)
  pub length : hashes.digest_length which ≡ hash_length_of work.alg
  pub message : HashHolds s.hasher which work.message

-- nothing of a message is left: the hasher is that of the empty one
pub record IsClearRunningHash (s : RunningHash) : Type 0 where
  pub total : s.total.bytes ≡ 0
  pub hasher : IsEmpty s.hasher

abbrev pub IsClearHash : HashOpState → Type 0
IsClearHash s = IsClearRunningHash s.state.work

-- the state stands for this operation
abbrev pub IsHashOperation : HashOpState → Operation HashWork → Type 0
IsHashOperation s op = StandsForOperation IsClearRunningHash HoldsHash s.state op
