-- What a step makes of a handle's operation.
use Rattle.std.specs.Prelude.{ℕ, Bool, List}
use Rattle.psa_status.specs.declared.Status.TheVariants.{BadState}
use Rattle.store_model.specs.Prelude.{Operation, Active, After, stays, with_live_key, Held, HandleOperation, Work, Hashing, Authenticating, Ciphering, Sealing, Deriving, hash_part, mac_part, cipher_part, aead_part, derivation_part, held_after, key_of_operation, part_of, HandleCall, OnHash, OnMac, OnCipher, OnAead, OnDerivation, hash_step, mac_step, cipher_step, aead_step, derivation_step}

-- a call of one family, by whether the operation's key is still there: BAD_STATE where it isn't active with that family
abbrev pub on_part : {W : Type 0} → HandleOperation → (W → Work) → Operation W → (alive : Bool) → (W → After W) → After Held
on_part operation embed (Active work) alive f = held_after (key_of_operation operation) embed (with_live_key alive (f work))
on_part operation embed _ alive f = stays operation BadState

-- a step, with the caller's next random bytes
abbrev pub stepped_by : (alive : Bool) (random : List ℕ) → HandleOperation → HandleCall → After Held
stepped_by alive random operation (OnHash step) = on_part operation Hashing (part_of hash_part operation) alive (λ w. hash_step w step)
stepped_by alive random operation (OnMac step) = on_part operation Authenticating (part_of mac_part operation) alive (λ w. mac_step w step)
stepped_by alive random operation (OnCipher step) = on_part operation Ciphering (part_of cipher_part operation) alive (λ w. cipher_step random w step)
stepped_by alive random operation (OnAead step) = on_part operation Sealing (part_of aead_part operation) alive (λ w. aead_step random w step)
stepped_by alive random operation (OnDerivation step) = on_part operation Deriving (part_of derivation_part operation) alive (λ w. derivation_step w step)
stepped_by alive random operation _ = stays operation BadState
