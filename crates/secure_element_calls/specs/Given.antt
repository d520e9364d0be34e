-- What a call that is refused by no row gives, in parts: the bytes that are written, and whether a MAC is the message's.
use Rattle.std.specs.Prelude.{ℕ, ◌≤◌, Bool, true, bytes_eq, List, [], ◌++◌, length, take, drop}
use Rattle.crypto_specs.specs.Prelude.{aes_encrypt, ctr_xor}
use Rattle.store_model.specs.Prelude.{mac_of}
use Rattle.secure_element_calls.specs.{declared.calls.ElementCall.ElementCall, declared.calls.ElementCall.TheVariants.MacCompute, declared.calls.ElementCall.TheVariants.MacVerify, declared.calls.ElementCall.TheVariants.CtrEncrypt, declared.calls.ElementCall.TheVariants.CtrDecrypt}

abbrev pub given_by : ElementCall → (key : List ℕ) → List ℕ
given_by (MacCompute alg input) key = mac_of alg.0 key input.now
given_by (MacVerify alg input mac) key = []
given_by (CtrEncrypt iv input) key = iv.now ++ ctr_xor (aes_encrypt key) iv.now input.now
given_by (CtrDecrypt input) key = ctr_xor (aes_encrypt key) (take 16 input.now) (drop 16 input.now)

abbrev pub agrees_by : ElementCall → (key : List ℕ) → Bool
agrees_by (MacVerify alg input mac) key = bytes_eq mac.now (mac_of alg.0 key input.now)
agrees_by _ key = true

-- only the comparison of a MAC may fail
abbrev pub Compares : ElementCall → Type 0
Compares (MacVerify alg input mac) = Unit {0}
Compares _ = ⊥

-- the vector of a ciphertext is there
abbrev pub HasVector : ElementCall → Type 0
HasVector (CtrDecrypt input) = 16 ≤ length input.now
HasVector _ = Unit {0}
