-- One call on the store, by a caller whose next random bytes these are.
use Rattle.std.specs.Prelude.{ℕ, false, true, length}
use Rattle.store_model.specs.Common.{Aead, AeadDecrypt, AeadEncrypt, Call, Cipher, CipherDecrypt, CipherEncrypt, Copy, Destroy, Export, Generate, GetAttributes, HashCompare, HashCompute, Import, Mac, MacCompute, MacVerify, Outcome, Purge, Random, Store, decided, first_row, replies, with_computed}
use Rattle.std.specs.FinMap as map
use Rattle.store_model.specs.{Rules.using_key, Rules.mac_usage, Rules.cipher_usage, Creation.created_unless, Creation.recorded_of, Creation.stated_bytes, Copies.recorded_copy, Generation.generated, Generation.generation_of, Hashes.hash_reply, Hashes.compared_reply, Macs.mac_reply, Macs.verified_reply, Ciphers.mode_of, Ciphers.is_ctr, Ciphers.iv_length, Ciphers.encrypted, Ciphers.decrypted_reply}
use Rattle.store_model.specs.{Aeads.sealed_reply, Aeads.opened_reply, KeyUse.attributes_reply, KeyUse.bytes_of_key, KeyUse.destroy_rows, KeyUse.destroyed, KeyUse.export_reply, KeyUse.purge_reply}

abbrev pub step : Store → ℕ → Random → Call → Outcome
step store caller random (Import a bytes) = created_unless store caller (recorded_of store caller a (length bytes)) bytes
step store caller random (Export id room) = with_computed store (replies (export_reply (map.get store.keys id) room))
step store caller random (GetAttributes id) = with_computed store (replies (attributes_reply (map.get store.keys id)))
step store caller random (Destroy id) = decided store (first_row (destroy_rows (map.get store.keys id) id)) (destroyed store id)
step store caller random (Purge id) = with_computed store (replies (purge_reply (map.get store.keys id)))
step store caller random (Copy source stated) =
    created_unless store caller (recorded_copy store caller (map.get store.keys source) stated) (bytes_of_key (map.get store.keys source))
step store caller random (Generate a) = generated store caller random (stated_bytes a) (generation_of store caller a)
step store caller random (HashCompute alg input room) = with_computed store (replies (hash_reply alg input room))
step store caller random (HashCompare alg input hash) = with_computed store (replies (compared_reply alg input hash))
step store caller random (MacCompute id alg input room) = using_key store true Mac (mac_usage false) alg id (λ key. replies (mac_reply alg key input room))
step store caller random (MacVerify id alg input mac) = using_key store true Mac (mac_usage true) alg id (λ key. replies (verified_reply alg key input mac))
step store caller random (CipherEncrypt id alg input room) =
    using_key store (is_ctr (mode_of alg)) Cipher (cipher_usage true) alg id (λ key. encrypted (mode_of alg) (random (iv_length (mode_of alg))) key input room)
step store caller random (CipherDecrypt id alg input room) =
    using_key store (is_ctr (mode_of alg)) Cipher (cipher_usage false) alg id (λ key. replies (decrypted_reply (mode_of alg) key input room))
step store caller random (AeadEncrypt id alg nonce ad input room) =
    using_key store false Aead (cipher_usage true) alg id (λ key. replies (sealed_reply alg key nonce ad input room))
step store caller random (AeadDecrypt id alg nonce ad input room) =
    using_key store false Aead (cipher_usage false) alg id (λ key. replies (opened_reply alg key nonce ad input room))
