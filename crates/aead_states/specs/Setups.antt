-- What begins an AEAD.
use Rattle.std.specs.Prelude.{ℕ, Bool, List, None}
use Rattle.store_model.specs.Prelude.{Operation, After, set_up, AeadWork, aead_work}

-- aead_encrypt_setup and aead_decrypt_setup, once the key is known to be for it
abbrev pub aead_setup : Operation AeadWork → Bool → ℕ → List ℕ → After AeadWork
aead_setup operation encrypts alg key = set_up operation None (aead_work encrypts alg key)
