-- A MAC in several parts.
use Rattle.std.specs.Prelude.{ℕ, Bool, not, bytes_eq, List, [], ◌∷◌, ◌++◌, length}
use Rattle.store_model.specs.{Common.BadState, Common.InvalidSignature, Common.Rows, Common.done, Common.first_row, Common.given, Common.mac_of, Common.tag_bytes, Rules.room_rows, Operations.After, Operations.goes_on, Operations.ends, Operations.unless_failed, HashOperations.total_rows}

-- whether a MAC is verified, and not made; the algorithm, the key, and the message so far
pub record MacWork : Type 0 where
  pub verifies : Bool
  pub alg : ℕ
  pub key : List ℕ
  pub message : List ℕ

pub data MacStep : Type 0 where
  MacUpdate : (input : List ℕ) → MacStep
  MacSignFinish : (room : ℕ) → MacStep
  MacVerifyFinish : (mac : List ℕ) → MacStep

abbrev pub mac_work : Bool → ℕ → List ℕ → MacWork
mac_work verifies alg key = record { verifies = verifies; alg = alg; key = key; message = [] }

abbrev pub sign_rows : MacWork → ℕ → Rows
sign_rows w room = (w.verifies, BadState) ∷ room_rows (tag_bytes w.alg) room

abbrev pub verify_rows : MacWork → List ℕ → Rows
verify_rows w mac = (not w.verifies, BadState) ∷ (not (bytes_eq mac (mac_of w.alg w.key w.message)), InvalidSignature) ∷ []

abbrev pub mac_step : MacWork → MacStep → After MacWork
mac_step w (MacUpdate input) =
    unless_failed (first_row (total_rows (length w.message) (length input))) (goes_on (record w { message = w.message ++ input }) done)
mac_step w (MacSignFinish room) = unless_failed (first_row (sign_rows w room)) (ends (given (mac_of w.alg w.key w.message)))
mac_step w (MacVerifyFinish mac) = unless_failed (first_row (verify_rows w mac)) (ends done)
