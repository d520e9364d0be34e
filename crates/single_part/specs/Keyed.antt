-- Calls in one part that compute with a key's bytes: for what use of the key, and what is computed.
use Rattle.std.specs.Prelude.{ℕ, List, length}
use Rattle.psa_status.specs.Rows.{first_row}
use Rattle.alg_encoding.specs.declared.algorithm.Alg.{Alg}
use Rattle.store_model.specs.Prelude.{opened_reply, sealed_reply, Reply, decrypted_reply, encrypted, iv_length, mode_of, Random, mac_reply, verified_reply, Computed, given, replies, reply_unless, room_rows}
use Rattle.key_policy.specs.{declared.key_use.KeyUse.KeyUse, declared.key_use.KeyUse.TheVariants.Export, Uses.used_for}
use Rattle.service_calls.specs.declared.handle_calls.Purpose.TheVariants.{SignMac, VerifyMac, EncryptCipher, DecryptCipher, EncryptAead, DecryptAead}
use Rattle.service_calls.specs.declared.store_calls.KeyedCall.{KeyedCall}
use Rattle.service_calls.specs.declared.store_calls.KeyedCall.TheVariants as call

-- the number of a call's algorithm; an export names none
abbrev pub algorithm_in : KeyedCall → Alg
algorithm_in call.Export = record { 0 = 0 }
algorithm_in (call.MacCompute alg input) = alg
algorithm_in (call.MacVerify alg input mac) = alg
algorithm_in (call.CipherEncrypt alg input) = alg
algorithm_in (call.CipherDecrypt alg input) = alg
algorithm_in (call.AeadEncrypt alg nonce ad input) = alg
algorithm_in (call.AeadDecrypt alg nonce ad input) = alg

-- what a call looks its key for
abbrev pub wanted_by : KeyedCall → KeyUse
wanted_by call.Export = Export
wanted_by (call.MacCompute alg input) = used_for SignMac alg
wanted_by (call.MacVerify alg input mac) = used_for VerifyMac alg
wanted_by (call.CipherEncrypt alg input) = used_for EncryptCipher alg
wanted_by (call.CipherDecrypt alg input) = used_for DecryptCipher alg
wanted_by (call.AeadEncrypt alg nonce ad input) = used_for EncryptAead alg
wanted_by (call.AeadDecrypt alg nonce ad input) = used_for DecryptAead alg

-- EXPORT of a key that may be exported: the row of the room is left
abbrev pub exported_reply : (key : List ℕ) → (room : ℕ) → Reply
exported_reply key room = reply_unless (first_row (room_rows (length key) room)) (given key)

-- what is computed with the bytes of a key that may be used
abbrev pub computed_by : KeyedCall → (key : List ℕ) → Random → (room : ℕ) → Computed
computed_by call.Export key random room = replies (exported_reply key room)
computed_by (call.MacCompute alg input) key random room = replies (mac_reply alg.0 key input.now room)
computed_by (call.MacVerify alg input mac) key random room = replies (verified_reply alg.0 key input.now mac.now)
computed_by (call.CipherEncrypt alg input) key random room = encrypted (mode_of alg.0) (random (iv_length (mode_of alg.0))) key input.now room
computed_by (call.CipherDecrypt alg input) key random room = replies (decrypted_reply (mode_of alg.0) key input.now room)
computed_by (call.AeadEncrypt alg nonce ad input) key random room = replies (sealed_reply alg.0 key nonce.now ad.now input.now room)
computed_by (call.AeadDecrypt alg nonce ad input) key random room = replies (opened_reply alg.0 key nonce.now ad.now input.now room)

-- how many bytes of a fresh initialisation vector a call takes
abbrev pub vector_length : KeyedCall → ℕ
vector_length (call.CipherEncrypt alg input) = iv_length (mode_of alg.0)
vector_length _ = 0
