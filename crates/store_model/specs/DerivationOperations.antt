-- A derivation of bytes and keys: HKDF (RFC 5869) and PBKDF2 (RFC 8018).
use Rattle.std.specs.Prelude.{ℕ, ◌+◌, ◌-◌, ◌*◌, ◌/◌, ◌^◌, Bool, true, false, not, nat_lt, ◌&&◌, ◌||◌, ◌==◌, bytes_eq, List, [], ◌∷◌, ◌++◌, length, drop, Option, Some, None, is_some, if◌then◌else◌}
use Rattle.store_model.specs.Common.{Attributes, BadState, InsufficientData, InvalidArgument, InvalidSignature, NotPermitted, NotSupported, Number, Reply, Rows, Success, digest, done, expand, extract, first_row, given, hash_block_length, hash_length_of, location, low_byte, pbkdf2, refusal}
pub use Rattle.store_model.specs.{Algorithms.number_or_zero, Creation.stated_bytes}
use Rattle.store_model.specs.{Operations.After, Operations.goes_on, Operations.unless_failed, CipherOperations.bytes_or_empty, Creation.stated_bits_rows}

-- The algorithm; the cost, the salt, the secret or password and the info once they are there, and whether the
-- secret came by a key; how many bytes of output were taken, and how many can still be.
pub record DerivationWork : Type 0 where
  pub alg : ℕ
  pub cost : Option ℕ
  pub salt : Option (List ℕ)
  pub secret : Option (List ℕ)
  pub info : Option (List ℕ)
  pub by_key : Bool
  pub taken : ℕ
  pub capacity : ℕ

-- HKDF's numbers differ in the low byte alone, which names the hash
abbrev pub is_hkdf : ℕ → Bool
is_hkdf alg = alg / 2 ^ 8 == 0x080001

-- 255 blocks, and 2^32 - 1
abbrev pub full_capacity : ℕ → ℕ
full_capacity alg = (if is_hkdf alg then 255 else 2 ^ 32 - 1) * hash_length_of alg

abbrev pub derivation_work : ℕ → DerivationWork
derivation_work alg = record { alg = alg; cost = None; salt = None; secret = None; info = None; by_key = false; taken = 0; capacity = full_capacity alg }

-- THE OUTPUT: one list of bytes, whose front is taken piece by piece

-- the first n bytes
abbrev pub derived : DerivationWork → ℕ → List ℕ
derived w n =
    let hash : List ℕ → List ℕ = digest (low_byte w.alg) in
    let block : ℕ = hash_block_length (low_byte w.alg) in
    if is_hkdf w.alg then expand hash block (extract hash block (bytes_or_empty w.salt) (bytes_or_empty w.secret)) (bytes_or_empty w.info) n
    else pbkdf2 hash block (bytes_or_empty w.secret) (bytes_or_empty w.salt) (number_or_zero w.cost) n

-- the next n bytes, after those that were taken
abbrev pub next_derived : DerivationWork → ℕ → List ℕ
next_derived w n = drop w.taken (derived w (w.taken + n))

abbrev pub without : DerivationWork → ℕ → DerivationWork
without w n = record w { taken = w.taken + n; capacity = w.capacity - n }

-- more is asked for than can be had: the operation stays active, and has nothing left to give
abbrev pub exhausted : DerivationWork → After DerivationWork
exhausted w = goes_on (record w { capacity = 0 }) (refusal InsufficientData)

-- INPUTS

abbrev pub secret_step : ℕ
secret_step = 0x101

abbrev pub password_step : ℕ
password_step = 0x102

abbrev pub salt_step : ℕ
salt_step = 0x202

abbrev pub info_step : ℕ
info_step = 0x203

abbrev pub cost_step : ℕ
cost_step = 0x205

abbrev pub key_step : ℕ → ℕ
key_step alg = if is_hkdf alg then secret_step else password_step

abbrev pub takes_bytes : ℕ → ℕ → Bool
takes_bytes alg step = step == key_step alg || step == salt_step || (is_hkdf alg && step == info_step)

-- HKDF takes a salt once and before the secret, and PBKDF2 salts after the cost and before the password
abbrev pub is_salt_due : DerivationWork → Bool
is_salt_due w = not (is_some w.secret) && (if is_hkdf w.alg then not (is_some w.salt) else is_some w.cost)

-- HKDF takes a secret once, and PBKDF2 a password once, after a salt
abbrev pub is_secret_due : DerivationWork → Bool
is_secret_due w = not (is_some w.secret) && (is_hkdf w.alg || is_some w.salt)

-- an info comes once, before any byte of output was taken
abbrev pub is_info_due : DerivationWork → Bool
is_info_due w = not (is_some w.info) && w.taken == 0

abbrev pub is_due : DerivationWork → ℕ → Bool
is_due w step = if step == salt_step then is_salt_due w else if step == info_step then is_info_due w else is_secret_due w

abbrev pub with_bytes : DerivationWork → ℕ → List ℕ → DerivationWork
with_bytes w step bytes =
    if step == salt_step then record w { salt = Some (bytes_or_empty w.salt ++ bytes) }
    else if step == info_step then record w { info = Some bytes }
    else record w { secret = Some bytes }

abbrev pub with_key : DerivationWork → List ℕ → DerivationWork
with_key w key = record w { secret = Some key; by_key = true }

-- a salt stands behind those before
abbrev pub input_bytes_rows : DerivationWork → ℕ → List ℕ → Rows
input_bytes_rows w step bytes =
    (not (takes_bytes w.alg step), InvalidArgument)
    ∷ (not (is_due w step), BadState)
    ∷ (nat_lt 1024 (length (if step == salt_step then bytes_or_empty w.salt else []) + length bytes), NotSupported)
    ∷ []

abbrev pub input_integer_rows : DerivationWork → ℕ → ℕ → Rows
input_integer_rows w step value =
    (is_hkdf w.alg || not (step == cost_step), InvalidArgument)
    ∷ (is_some w.cost, BadState)
    ∷ (value == 0, InvalidArgument)
    ∷ (nat_lt 100000 value, NotSupported)
    ∷ []

-- what input_key refuses before its key is looked at
abbrev pub key_step_rows : DerivationWork → ℕ → Rows
key_step_rows w step = (not (step == key_step w.alg), InvalidArgument) ∷ (not (is_secret_due w), BadState) ∷ []

-- OUTPUTS

abbrev pub output_rows : DerivationWork → Rows
output_rows w = (not (is_some w.secret), BadState) ∷ []

-- output that may be had, and what comes of it
abbrev pub taken_from : DerivationWork → ℕ → Reply → After DerivationWork
taken_from w n reply = if nat_lt w.capacity n then exhausted w else goes_on (without w n) reply

-- what output_key refuses of a derivation, before the capacity is looked at
abbrev pub output_key_rows : DerivationWork → Attributes → Rows
output_key_rows w a =
    output_rows w ++ stated_bits_rows a
    ++ (not (location a.lifetime.0 == 0), NotSupported)
    ∷ (not w.by_key, NotPermitted)
    ∷ []

pub data DerivationStep : Type 0 where
  GetCapacity : DerivationStep
  SetCapacity : (capacity : ℕ) → DerivationStep
  InputBytes : (step : ℕ) (bytes : List ℕ) → DerivationStep
  InputInteger : (step value : ℕ) → DerivationStep
  OutputBytes : (length : ℕ) → DerivationStep
  VerifyBytes : (expected : List ℕ) → DerivationStep

-- the derivation goes on, whether the bytes are those that were expected or not
abbrev pub compared : Bool → Reply
compared same = if same then done else refusal InvalidSignature

abbrev pub derivation_step : DerivationWork → DerivationStep → After DerivationWork
derivation_step w GetCapacity = goes_on w (record { status = Success; output = Number w.capacity; needed = 0 })
derivation_step w (SetCapacity n) = if nat_lt w.capacity n then goes_on w (refusal InvalidArgument) else goes_on (record w { capacity = n }) done
derivation_step w (InputBytes step bytes) = unless_failed (first_row (input_bytes_rows w step bytes)) (goes_on (with_bytes w step bytes) done)
derivation_step w (InputInteger step value) = unless_failed (first_row (input_integer_rows w step value)) (goes_on (record w { cost = Some value }) done)
derivation_step w (OutputBytes n) = unless_failed (first_row (output_rows w)) (taken_from w n (given (next_derived w n)))
derivation_step w (VerifyBytes expected) =
    let n : ℕ = length expected in
    unless_failed (first_row (output_rows w)) (taken_from w n (compared (bytes_eq expected (next_derived w n))))
