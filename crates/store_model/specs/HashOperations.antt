-- A hash in several parts.
use Rattle.std.specs.Prelude.{ℕ, ◌+◌, not, nat_lt, bytes_eq, List, [], ◌∷◌, ◌++◌, length}
use Rattle.store_model.specs.{Common.InvalidArgument, Common.InvalidSignature, Common.Rows, Common.done, Common.first_row, Common.given, Common.hash_length_of, Common.hash_of, Rules.room_rows, Rules.total_limit, Operations.After, Operations.goes_on, Operations.ends, Operations.unless_failed}

-- the algorithm, and the message so far
pub record HashWork : Type 0 where
  pub alg : ℕ
  pub message : List ℕ

pub data HashStep : Type 0 where
  HashUpdate : (input : List ℕ) → HashStep
  HashFinish : (room : ℕ) → HashStep
  HashVerify : (hash : List ℕ) → HashStep

abbrev pub hash_work : ℕ → HashWork
hash_work alg = record { alg = alg; message = [] }

-- no message is longer than 2^32 - 1 bytes
abbrev pub total_rows : (so_far more : ℕ) → Rows
total_rows so_far more = (nat_lt total_limit (so_far + more), InvalidArgument) ∷ []

abbrev pub hash_step : HashWork → HashStep → After HashWork
hash_step w (HashUpdate input) =
    unless_failed (first_row (total_rows (length w.message) (length input))) (goes_on (record w { message = w.message ++ input }) done)
hash_step w (HashFinish room) = unless_failed (first_row (room_rows (hash_length_of w.alg) room)) (ends (given (hash_of w.alg w.message)))
hash_step w (HashVerify hash) = unless_failed (first_row ((not (bytes_eq hash (hash_of w.alg w.message)), InvalidSignature) ∷ [])) (ends done)
