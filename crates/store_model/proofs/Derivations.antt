-- What a derivation's step makes of its operation.
use Rattle.std.proofs.Common.{Bool, List, None, Option, Some, arith, bytes_eq, cond, false, is_some, length, nat_lt, not, refl, true, ℕ, ◌&&◌, ◌++◌, ◌==◌, ◌||◌, ◌≡◌, ◌≤◌}
use Rattle.store_model.proofs.Common.{DerivationStep, DerivationWork, Deriving, GetCapacity, HandleCall, InputBytes, InputInteger, InsufficientData, InvalidArgument, InvalidHandle, InvalidSignature, IsSoundDerivation, Key, KeyCreation, OnDerivation, OutputBytes, Reply, SetCapacity, Status, Store, VerifyBytes, bytes_or_empty, compared, derivation_step, derivation_work, done, exhausted, first_row, given, goes_on, held_after, info_step, input_bytes_rows, input_integer_rows, input_key_rows, is_due, is_hkdf, is_info_due, is_salt_due, is_secret_due, left_by, nat_tests, next_derived, output_rows, refusal, salt_step, with_key, without}
use Rattle.store_model.proofs.{Buffers.refusal_leaves, Tables.NoFault, Tables.none_holds, Tables.refused_by, Tables.refuses_plainly, Steps.IsStep, Steps.Loses, Steps.held_derivation, Steps.unless_step, Steps.goes_step}

-- inputs

pub flipped : (b : Bool) → not b ≡ false → b ≡ true
flipped true h = refl
flipped false h = cc

costed : (secret hkdf salt cost : Bool) → (not secret && cond hkdf salt cost) ≡ true → hkdf ≡ false → cost ≡ true
costed secret hkdf salt cost h e = grind arith

salted : (secret hkdf salt : Bool) → (not secret && (hkdf || salt)) ≡ true → hkdf ≡ false → salt ≡ true
salted secret hkdf salt h e = grind arith

pub key_sound : (w : DerivationWork) (key : List ℕ) → is_secret_due w ≡ true → IsSoundDerivation w → IsSoundDerivation (with_key w key)
key_sound w key due h = record {
  capacity = h.capacity;
  cost = h.cost;
  salted = h.salted;
  keyed = λ e some. h.salted e (salted (is_some w.secret) (is_hkdf w.alg) (is_some w.salt) due e);
}

bytes_sound : (w : DerivationWork) (bytes : List ℕ) (b c : Bool) → cond b (is_salt_due w) (cond c (is_info_due w) (is_secret_due w)) ≡ true → IsSoundDerivation w →
    IsSoundDerivation (cond b (record w { salt = Some (bytes_or_empty w.salt ++ bytes) }) (cond c (record w { info = Some bytes }) (record w { secret = Some bytes })))
bytes_sound w bytes true c due h = record {
  capacity = h.capacity;
  cost = h.cost;
  salted = λ e some. costed (is_some w.secret) (is_hkdf w.alg) (not (is_some w.salt)) (is_some w.cost) due e;
  keyed = h.keyed;
}
bytes_sound w bytes false true due h = record { capacity = h.capacity; cost = h.cost; salted = h.salted; keyed = h.keyed }
bytes_sound w bytes false false due h = record {
  capacity = h.capacity;
  cost = h.cost;
  salted = h.salted;
  keyed = λ e some. h.salted e (salted (is_some w.secret) (is_hkdf w.alg) (is_some w.salt) due e);
}

cost_sound : (w : DerivationWork) (value : ℕ) → (value == 0) ≡ false → IsSoundDerivation w → IsSoundDerivation (record w { cost = Some value })
cost_sound w value some h = record {
  capacity = h.capacity;
  cost = λ n e. let same : value ≡ n = cc in grind (arith, nat_tests);
  salted = λ e salt. refl;
  keyed = λ e secret. refl;
}

pub start_sound : (alg : ℕ) → IsSoundDerivation (derivation_work alg)
start_sound alg = record {
  capacity = omega arith;
  cost = λ n e. cc;
  salted = λ e salt. cc;
  keyed = λ e secret. cc;
}

-- outputs

lowered_sound : (w : DerivationWork) (n : ℕ) → n ≤ w.capacity → IsSoundDerivation w → IsSoundDerivation (record w { capacity = n })
lowered_sound w n less h = record { capacity = let c = h.capacity in omega arith; cost = h.cost; salted = h.salted; keyed = h.keyed }

pub without_sound : (w : DerivationWork) (n : ℕ) → n ≤ w.capacity → IsSoundDerivation w → IsSoundDerivation (without w n)
without_sound w n less h = record { capacity = let c = h.capacity in omega arith; cost = h.cost; salted = h.salted; keyed = h.keyed }

pub not_below : (m n : ℕ) → nat_lt m n ≡ false → n ≤ m
not_below m n h = grind (arith, nat_tests)

module _ {call : HandleCall} (store : Store) (key : Option KeyCreation) where
  -- a refusal that leaves the derivation active
  stays_step : (w next : DerivationWork) (status : Status) → NoFault status → held_derivation key next ≡ left_by call (held_derivation key w) status → (IsSoundDerivation w → IsSoundDerivation next) →
      IsStep call store (held_derivation key w) (held_after key Deriving (goes_on next (refusal status)))
  stays_step w next status plain left sound = record {
    few = omega arith;
    undrawn = λ no. refl;
    plain = plain;
    left = λ no. left;
    no_key = λ a. refl;
    buffer = refusal_leaves status;
    sound = λ s h. record { key = h.key; work = sound h.work };
  }

  pub exhausted_step : (w : DerivationWork) → held_derivation key (record w { capacity = 0 }) ≡ left_by call (held_derivation key w) InsufficientData →
      IsStep call store (held_derivation key w) (held_after key Deriving (exhausted w))
  exhausted_step w left = stays_step w (record w { capacity = 0 }) InsufficientData refl left (lowered_sound w 0 (omega arith))

  taken_step : (w : DerivationWork) (n : ℕ) (reply : Reply) (b : Bool) → nat_lt w.capacity n ≡ b →
      (nat_lt w.capacity n ≡ true → held_derivation key (record w { capacity = 0 }) ≡ left_by call (held_derivation key w) InsufficientData) →
      (nat_lt w.capacity n ≡ false → IsStep call store (held_derivation key w) (held_after key Deriving (goes_on (without w n) reply))) →
      IsStep call store (held_derivation key w) (held_after key Deriving (cond b (exhausted w) (goes_on (without w n) reply)))
  taken_step w n reply true e left h = exhausted_step w (left e)
  taken_step w n reply false e left h = h e

module _ (store : Store) (key : Option KeyCreation) where
  compared_step : (w : DerivationWork) (expected : List ℕ) (same : Bool) → nat_lt w.capacity (length expected) ≡ false →
      IsStep (OnDerivation (VerifyBytes expected)) store (held_derivation key w) (held_after key Deriving (goes_on (without w (length expected)) (compared same)))
  compared_step w expected true less =
      goes_step store key Deriving w (without w (length expected)) done refl (λ a. refl) (without_sound w (length expected) (not_below w.capacity (length expected) less))
  compared_step w expected false less =
      stays_step store key w (without w (length expected)) InvalidSignature refl refl
      (without_sound w (length expected) (not_below w.capacity (length expected) less))

  lowered_step : (w : DerivationWork) (n : ℕ) (b : Bool) → nat_lt w.capacity n ≡ b →
      IsStep (OnDerivation (SetCapacity n)) store (held_derivation key w) (held_after key Deriving (cond b (goes_on w (refusal InvalidArgument)) (goes_on (record w { capacity = n }) done)))
  lowered_step w n true e = stays_step store key w w InvalidArgument refl refl (λ h. h)
  lowered_step w n false e = goes_step store key Deriving w (record w { capacity = n }) done refl (λ a. refl) (lowered_sound w n (not_below w.capacity n e))

  -- a call on a derivation whose key is gone
  pub derivation_lost : (w : DerivationWork) (step : DerivationStep) → Loses (OnDerivation step) (held_derivation key w) InvalidHandle
  derivation_lost w (SetCapacity n) = refl
  derivation_lost w step = refl

  pub derivation_is_step : (w : DerivationWork) (step : DerivationStep) → IsStep (OnDerivation step) store (held_derivation key w) (held_after key Deriving (derivation_step w step))
  derivation_is_step w GetCapacity = goes_step store key Deriving w w _ refl (λ a. refl) (λ h. h)
  derivation_is_step w (SetCapacity n) = lowered_step w n (nat_lt w.capacity n) refl
  derivation_is_step w (InputBytes step bytes) =
      unless_step store key Deriving _ _ _ (refuses_plainly (input_bytes_rows w step bytes) refl) (λ status refused. refl) (λ e. goes_step store key Deriving w _ done refl (λ a. refl)
      (bytes_sound w bytes (step == salt_step) (step == info_step) (flipped (is_due w step) (none_holds (input_bytes_rows w step bytes) 1 e))))
  derivation_is_step w (InputInteger step value) =
      unless_step store key Deriving _ _ _ (refuses_plainly (input_integer_rows w step value) refl) (λ status refused. refl) (λ e. goes_step store key Deriving w _ done refl (λ a. refl) (cost_sound w value (none_holds (input_integer_rows w step value) 2 e)))
  derivation_is_step w (OutputBytes n) =
      unless_step store key Deriving _ _ _ (refuses_plainly (output_rows w) refl) (refused_by (Loses (OnDerivation (OutputBytes n)) (held_derivation key w)) (output_rows w) (λ on. refl, tt))
      (λ e. taken_step store key w n (given (next_derived w n)) (nat_lt w.capacity n) refl (λ less. refl)
      (λ less. goes_step store key Deriving w (without w n) (given (next_derived w n)) refl (λ a. refl) (without_sound w n (not_below w.capacity n less))))
  derivation_is_step w (VerifyBytes expected) =
      let same : Bool = bytes_eq expected (next_derived w (length expected)) in
      unless_step store key Deriving _ _ _ (refuses_plainly (output_rows w) refl) (refused_by (Loses (OnDerivation (VerifyBytes expected)) (held_derivation key w)) (output_rows w) (λ on. refl, tt))
      (λ e. taken_step store key w (length expected) (compared same) (nat_lt w.capacity (length expected)) refl
      (λ less. refl) (compared_step w expected same))

-- a key is due
pub key_due : (w : DerivationWork) (found : Option Key) (step : ℕ) → first_row (input_key_rows w found step) ≡ None → is_secret_due w ≡ true
key_due w found step e = flipped (is_secret_due w) (none_holds (input_key_rows w found step) 1 e)
