-- What begins a cipher.
use Rattle.std.specs.Prelude.{ℕ, Bool, List, None}
use Rattle.store_model.specs.Prelude.{Operation, After, set_up, CipherWork, cipher_work}

-- cipher_encrypt_setup and cipher_decrypt_setup, once the key is known to be for it
abbrev pub cipher_setup : Operation CipherWork → Bool → ℕ → List ℕ → After CipherWork
cipher_setup operation encrypts alg key = set_up operation None (cipher_work encrypts alg key)
