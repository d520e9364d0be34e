-- An AEAD in several parts.
use Rattle.std.specs.Prelude.{ℕ, ◌+◌, ◌^◌, Bool, true, false, not, nat_lt, ◌&&◌, ◌||◌, ◌==◌, bytes_eq, List, [], ◌∷◌, ◌++◌, length, take, drop, Option, Some, None, is_some, if◌then◌else◌}
use Rattle.store_model.specs.{Common.BadState, Common.InvalidArgument, Common.InvalidSignature, Common.Rows, Common.done, Common.first_row, Common.given, Common.option_map_or, Common.tag_bytes, Aeads.is_ccm, Aeads.permits_nonce, Aeads.permits_payload, Aeads.aead_text, Aeads.aead_tag, Rules.room_rows, Rules.total_limit, CipherOperations.bytes_or_empty}
use Rattle.store_model.specs.Operations.{Active, After, goes_on, ends, unless_failed}

-- the bytes of associated data and of payload that were declared
pub record Lengths : Type 0 where
  pub ad : ℕ
  pub payload : ℕ

-- whether the text is encrypted, and not decrypted; the algorithm, the key, the lengths and the nonce once they
-- are there, the associated data and the text so far, and whether any text was given, be it of no bytes
pub record AeadWork : Type 0 where
  pub encrypts : Bool
  pub alg : ℕ
  pub key : List ℕ
  pub lengths : Option Lengths
  pub nonce : Option (List ℕ)
  pub ad : List ℕ
  pub text : List ℕ
  pub has_text : Bool

pub data AeadStep : Type 0 where
  AeadGenerateNonce : (room : ℕ) → AeadStep
  AeadSetNonce : (nonce : List ℕ) → AeadStep
  AeadSetLengths : (ad payload : ℕ) → AeadStep
  AeadUpdateAd : (input : List ℕ) → AeadStep
  AeadUpdate : (input : List ℕ) (room : ℕ) → AeadStep
  AeadFinish : (room : ℕ) → AeadStep
  AeadVerify : (tag : List ℕ) → AeadStep

abbrev pub aead_work : Bool → ℕ → List ℕ → AeadWork
aead_work encrypts alg key = record { encrypts = encrypts; alg = alg; key = key; lengths = None; nonce = None; ad = []; text = []; has_text = false }

-- THE OUTPUT THAT IS DUE: each byte at once

abbrev pub aead_due : AeadWork → List ℕ
aead_due w = aead_text w.alg w.key (bytes_or_empty w.nonce) w.text

abbrev pub aead_fresh : (before after : AeadWork) → List ℕ
aead_fresh before after = drop (length (aead_due before)) (aead_due after)

abbrev pub work_tag : AeadWork → List ℕ
work_tag w =
    if w.encrypts then aead_tag w.alg w.key (bytes_or_empty w.nonce) w.ad w.text (aead_due w)
    else aead_tag w.alg w.key (bytes_or_empty w.nonce) w.ad (aead_due w) w.text

-- LENGTHS AND NONCE

-- the payload that was declared, and 0 where none was
abbrev pub declared_payload : Option Lengths → ℕ
declared_payload declared = option_map_or (λ lengths. lengths.payload) declared 0

-- whether so many bytes are past a declared length
abbrev pub is_past_ad : Option Lengths → ℕ → Bool
is_past_ad declared n = option_map_or (λ lengths. nat_lt lengths.ad n) declared false

abbrev pub is_past_payload : Option Lengths → ℕ → Bool
is_past_payload declared n = option_map_or (λ lengths. nat_lt lengths.payload n) declared false

-- whether so many bytes of associated data are those declared
abbrev pub is_whole_ad : Option Lengths → ℕ → Bool
is_whole_ad declared n = option_map_or (λ lengths. n == lengths.ad) declared true

abbrev pub is_whole_payload : Option Lengths → ℕ → Bool
is_whole_payload declared n = option_map_or (λ lengths. n == lengths.payload) declared true

-- the nonce comes once, and with CCM after the lengths
abbrev pub takes_nonce : AeadWork → Bool
takes_nonce w = not (is_some w.nonce) && (not (is_ccm w.alg) || is_some w.lengths)

-- the bytes of a generated nonce: with CCM the most that leave room for the payload's length
abbrev pub nonce_length : AeadWork → ℕ
nonce_length w =
    if not (is_ccm w.alg) then 12
    else if nat_lt (declared_payload w.lengths) (2 ^ 16) then 13
    else if nat_lt (declared_payload w.lengths) (2 ^ 24) then 12
    else 11

abbrev pub with_nonce : AeadWork → List ℕ → AeadWork
with_nonce w nonce = record w { nonce = Some nonce }

abbrev pub with_lengths : AeadWork → ℕ → ℕ → AeadWork
with_lengths w ad payload = record w { lengths = Some (record { ad = ad; payload = payload }) }

abbrev pub with_payload : AeadWork → List ℕ → AeadWork
with_payload w input = record w { text = w.text ++ input; has_text = true }

abbrev pub generate_nonce_rows : AeadWork → ℕ → Rows
generate_nonce_rows w room = (not (w.encrypts && takes_nonce w), BadState) ∷ room_rows (nonce_length w) room

abbrev pub set_nonce_rows : AeadWork → List ℕ → Rows
set_nonce_rows w nonce =
    (not (takes_nonce w), BadState)
    ∷ (not (permits_nonce w.alg (length nonce) && permits_payload w.alg (length nonce) (declared_payload w.lengths)), InvalidArgument)
    ∷ []

abbrev pub set_lengths_rows : AeadWork → (ad payload : ℕ) → Rows
set_lengths_rows w ad payload =
    (is_some w.lengths || is_some w.nonce, BadState)
    ∷ (nat_lt total_limit ad || nat_lt total_limit payload, InvalidArgument)
    ∷ []

abbrev pub update_ad_rows : AeadWork → List ℕ → Rows
update_ad_rows w input =
    let n : ℕ = length w.ad + length input in
    (not (is_some w.nonce) || w.has_text, BadState)
    ∷ (is_past_ad w.lengths n || nat_lt total_limit n, InvalidArgument)
    ∷ []

abbrev pub aead_update_rows : AeadWork → List ℕ → ℕ → Rows
aead_update_rows w input room =
    let n : ℕ = length w.text + length input in
    (not (is_some w.nonce), BadState)
    ∷ (not (is_whole_ad w.lengths (length w.ad)) || is_past_payload w.lengths n || nat_lt total_limit n, InvalidArgument)
    ∷ room_rows (length input) room

-- an operation of this direction, whose nonce is there, has as many bytes as were declared
abbrev pub whole_rows : AeadWork → Bool → Rows
whole_rows w encrypts =
    (not (encrypts && is_some w.nonce), BadState)
    ∷ (not (is_whole_ad w.lengths (length w.ad) && is_whole_payload w.lengths (length w.text)), InvalidArgument)
    ∷ []

-- one step, where `random` has the caller's next 16 random bytes
abbrev pub aead_step : List ℕ → AeadWork → AeadStep → After AeadWork
aead_step random w (AeadGenerateNonce room) =
    let nonce : List ℕ = take (nonce_length w) random in
    unless_failed (first_row (generate_nonce_rows w room)) (record { operation = Active (with_nonce w nonce); reply = given nonce; drawn = nonce_length w })
aead_step random w (AeadSetNonce nonce) = unless_failed (first_row (set_nonce_rows w nonce)) (goes_on (with_nonce w nonce) done)
aead_step random w (AeadSetLengths ad payload) = unless_failed (first_row (set_lengths_rows w ad payload)) (goes_on (with_lengths w ad payload) done)
aead_step random w (AeadUpdateAd input) = unless_failed (first_row (update_ad_rows w input)) (goes_on (record w { ad = w.ad ++ input }) done)
aead_step random w (AeadUpdate input room) =
    unless_failed (first_row (aead_update_rows w input room)) (goes_on (with_payload w input) (given (aead_fresh w (with_payload w input))))
aead_step random w (AeadFinish room) =
    unless_failed (first_row (whole_rows w w.encrypts ++ room_rows (tag_bytes w.alg) room)) (ends (given (work_tag w)))
aead_step random w (AeadVerify tag) =
    unless_failed (first_row (whole_rows w (not w.encrypts) ++ (not (bytes_eq tag (work_tag w)), InvalidSignature) ∷ [])) (ends done)
