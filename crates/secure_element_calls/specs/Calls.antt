-- The calls that the secure element computes, as calls of the model.
use Rattle.std.specs.Prelude.{ℕ, ◌+◌, ◌-◌, ◌<◌, true, false, List, [], length, take}
use Rattle.psa_status.specs.Rows.{Rows}
use Rattle.alg_encoding.specs.{declared.table.Class.Class, declared.table.Class.TheVariants.Mac, declared.table.Class.TheVariants.Cipher}
use Rattle.store_model.specs.{Prelude.tag_bytes, Prelude.Ctr, Prelude.decrypt_rows, Prelude.decrypted_reply, Prelude.encrypt_rows, Prelude.encrypted, Prelude.compute_rows, Prelude.mac_reply, Prelude.verified_reply, Prelude.cipher_usage, Prelude.mac_usage, Macs.verify_rows}
use Rattle.store_model.specs.Call as model
use Rattle.secure_element_calls.specs.{declared.calls.ElementCall.ElementCall, declared.calls.ElementCall.TheVariants.MacCompute, declared.calls.ElementCall.TheVariants.MacVerify, declared.calls.ElementCall.TheVariants.CtrEncrypt, declared.calls.ElementCall.TheVariants.CtrDecrypt}

-- the algorithm number of CTR
abbrev pub ctr : ℕ
ctr = 0x04c01000

abbrev pub algorithm_asked : ElementCall → ℕ
algorithm_asked (MacCompute alg input) = alg.0
algorithm_asked (MacVerify alg input mac) = alg.0
algorithm_asked (CtrEncrypt iv input) = ctr
algorithm_asked (CtrDecrypt input) = ctr

abbrev pub class_asked : ElementCall → Class
class_asked (MacCompute alg input) = Mac
class_asked (MacVerify alg input mac) = Mac
class_asked (CtrEncrypt iv input) = Cipher
class_asked (CtrDecrypt input) = Cipher

-- the flag that the key's policy must have
abbrev pub usage_asked : ElementCall → ℕ
usage_asked (MacCompute alg input) = mac_usage false
usage_asked (MacVerify alg input mac) = mac_usage true
usage_asked (CtrEncrypt iv input) = cipher_usage true
usage_asked (CtrDecrypt input) = cipher_usage false

-- the model's call on the key of an identifier, with an output buffer of so many bytes
abbrev pub model_call : ElementCall → (id room : ℕ) → model.Call
model_call (MacCompute alg input) id room = model.MacCompute id alg.0 input.now room
model_call (MacVerify alg input mac) id room = model.MacVerify id alg.0 input.now mac.now
model_call (CtrEncrypt iv input) id room = model.CipherEncrypt id ctr input.now room
model_call (CtrDecrypt input) id room = model.CipherDecrypt id ctr input.now room

-- the model's reply of the call on a key of these bytes that may be used
abbrev pub element_reply : ElementCall → (key : List ℕ) → (room : ℕ) → model.Reply
element_reply (MacCompute alg input) key room = mac_reply alg.0 key input.now room
element_reply (MacVerify alg input mac) key room = verified_reply alg.0 key input.now mac.now
element_reply (CtrEncrypt iv input) key room = (encrypted Ctr iv.now key input.now room).reply
element_reply (CtrDecrypt input) key room = decrypted_reply Ctr key input.now room

-- the rows of the model's tables that are decided before the element is asked: all, but for the comparison of a MAC
abbrev pub rows_before : ElementCall → (room : ℕ) → Rows
rows_before (MacCompute alg input) room = compute_rows alg.0 (length input.now) room
rows_before (MacVerify alg input mac) room = take 1 (verify_rows alg.0 [] input.now mac.now)
rows_before (CtrEncrypt iv input) room = encrypt_rows Ctr (length input.now) room
rows_before (CtrDecrypt input) room = decrypt_rows Ctr (length input.now) room

-- how many bytes of the output buffer the call writes
abbrev pub needed_by : ElementCall → ℕ
needed_by (MacCompute alg input) = tag_bytes alg.0
needed_by (MacVerify alg input mac) = 0
needed_by (CtrEncrypt iv input) = 16 + length input.now
needed_by (CtrDecrypt input) = length input.now - 16

-- the element is asked for every MAC, and for a text of some bytes
abbrev pub AsksElement : ElementCall → Type 0
AsksElement (MacCompute alg input) = Unit {0}
AsksElement (MacVerify alg input mac) = Unit {0}
AsksElement (CtrEncrypt iv input) = 0 < length input.now
AsksElement (CtrDecrypt input) = 16 < length input.now
