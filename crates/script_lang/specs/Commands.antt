-- The commands: how each is written, a row each, and the call that its line makes.
use Rattle.std.specs.{Prelude.ℕ, Prelude.◌≡◌, Prelude.true, Prelude.false, Prelude.List, Prelude.[], Prelude.◌∷◌, Prelude.Some, Prelude.find, Prelude.slice_index, Prelude.codes, Prelude.Option, Str.bytes_eq}
use Rattle.store_model.specs.Call as store
use Rattle.store_model.specs.HandleCalls as operation
use Rattle.store_model.specs.Prelude.{Request, OnStore, OnHandle, HashUpdate, HashFinish, HashVerify, MacUpdate, MacSignFinish, MacVerifyFinish, CipherGenerateIv, CipherSetIv, CipherUpdate, CipherFinish, AeadGenerateNonce, AeadSetNonce, AeadSetLengths, AeadUpdateAd, AeadUpdate, AeadFinish, AeadVerify, GetCapacity, SetCapacity, InputBytes, InputInteger, OutputBytes, VerifyBytes}
use Rattle.script_lang.specs.{Shapes.Shape, Shapes.row, Fields.Fields, Fields.alg_at, Fields.attributes_at, Fields.bytes_at, Fields.data_at, Fields.long_at, Fields.room_at, Fields.short_at, declared.store_commands.KeyCommand.KeyCommand, declared.store_commands.SinglePartCommand.SinglePartCommand, declared.operation_commands.HashCommand.HashCommand, declared.commands.ScriptCommand.ScriptCommand}
use Rattle.script_lang.specs.declared.store_commands.KeyCommand.TheVariants as key
use Rattle.script_lang.specs.declared.store_commands.SinglePartCommand.TheVariants as single
use Rattle.script_lang.specs.declared.operation_commands.HashCommand.TheVariants as hash
use Rattle.script_lang.specs.{declared.operation_commands.MacCommand.MacCommand, declared.operation_commands.CipherCommand.CipherCommand, declared.operation_commands.AeadCommand.AeadCommand, declared.operation_commands.DerivationCommand.DerivationCommand, declared.script.KeyWord.KeyWord, declared.script.KeyWord.TheVariants.Given, declared.script.KeyWord.TheVariants.Line}
use Rattle.script_lang.specs.declared.operation_commands.MacCommand.TheVariants as mac
use Rattle.script_lang.specs.declared.operation_commands.CipherCommand.TheVariants as cipher
use Rattle.script_lang.specs.declared.operation_commands.AeadCommand.TheVariants as aead
use Rattle.script_lang.specs.declared.operation_commands.DerivationCommand.TheVariants as derivation
use Rattle.script_lang.specs.declared.commands.ScriptCommand.TheVariants as command
use Rattle.script_lang.specs.declared.commands.Kind.TheVariants as kind
use Rattle.script_lang.specs.declared.fields.Field.TheVariants as field
use Rattle.script_lang.specs.declared.script.ScriptCall.{ScriptCall}

unfoldable pub rows : List Shape
rows =
    row (codes "import") (command.Key key.Import) (kind.Name ∷ []) (field.Type ∷ field.Usage ∷ field.Alg ∷ field.Data ∷ []) (field.Life ∷ field.Id ∷ field.Bits ∷ field.Alg2 ∷ [])
    ∷ row (codes "generate") (command.Key key.Generate) (kind.Name ∷ []) (field.Type ∷ field.Bits ∷ field.Usage ∷ field.Alg ∷ []) (field.Life ∷ field.Id ∷ field.Alg2 ∷ [])
    ∷ row (codes "copy") (command.Key key.Copy) (kind.Name ∷ kind.Key ∷ []) (field.Usage ∷ field.Alg ∷ []) (field.Type ∷ field.Bits ∷ field.Life ∷ field.Id ∷ field.Alg2 ∷ [])
    ∷ row (codes "destroy") (command.Key key.Destroy) (kind.Key ∷ []) [] []
    ∷ row (codes "purge") (command.Key key.Purge) (kind.Key ∷ []) [] []
    ∷ row (codes "attributes") (command.Key key.Attributes) (kind.Key ∷ []) [] []
    ∷ row (codes "export") (command.Key key.Export) (kind.Key ∷ []) [] (field.Room ∷ [])
    ∷ row (codes "hash_compute") (command.SinglePart single.HashCompute) [] (field.Alg ∷ field.Data ∷ []) (field.Room ∷ [])
    ∷ row (codes "hash_compare") (command.SinglePart single.HashCompare) [] (field.Alg ∷ field.Data ∷ field.Hash ∷ []) []
    ∷ row (codes "mac_compute") (command.SinglePart single.MacCompute) (kind.Key ∷ []) (field.Alg ∷ field.Data ∷ []) (field.Room ∷ [])
    ∷ row (codes "mac_verify") (command.SinglePart single.MacVerify) (kind.Key ∷ []) (field.Alg ∷ field.Data ∷ field.Mac ∷ []) []
    ∷ row (codes "cipher_encrypt") (command.SinglePart single.CipherEncrypt) (kind.Key ∷ []) (field.Alg ∷ field.Data ∷ []) (field.Room ∷ [])
    ∷ row (codes "cipher_decrypt") (command.SinglePart single.CipherDecrypt) (kind.Key ∷ []) (field.Alg ∷ field.Data ∷ []) (field.Room ∷ [])
    ∷ row (codes "aead_encrypt") (command.SinglePart single.AeadEncrypt) (kind.Key ∷ []) (field.Alg ∷ field.Nonce ∷ field.Data ∷ []) (field.Ad ∷ field.Room ∷ [])
    ∷ row (codes "aead_decrypt") (command.SinglePart single.AeadDecrypt) (kind.Key ∷ []) (field.Alg ∷ field.Nonce ∷ field.Data ∷ []) (field.Ad ∷ field.Room ∷ [])
    ∷ row (codes "hash_setup") (command.Hash hash.Setup) (kind.Handle ∷ []) (field.Alg ∷ []) []
    ∷ row (codes "hash_update") (command.Hash hash.Update) (kind.Handle ∷ []) (field.Data ∷ []) []
    ∷ row (codes "hash_finish") (command.Hash hash.Finish) (kind.Handle ∷ []) [] (field.Room ∷ [])
    ∷ row (codes "hash_verify") (command.Hash hash.Verify) (kind.Handle ∷ []) (field.Hash ∷ []) []
    ∷ row (codes "mac_sign_setup") (command.Mac mac.SignSetup) (kind.Handle ∷ kind.Key ∷ []) (field.Alg ∷ []) []
    ∷ row (codes "mac_verify_setup") (command.Mac mac.VerifySetup) (kind.Handle ∷ kind.Key ∷ []) (field.Alg ∷ []) []
    ∷ row (codes "mac_update") (command.Mac mac.Update) (kind.Handle ∷ []) (field.Data ∷ []) []
    ∷ row (codes "mac_sign_finish") (command.Mac mac.SignFinish) (kind.Handle ∷ []) [] (field.Room ∷ [])
    ∷ row (codes "mac_verify_finish") (command.Mac mac.VerifyFinish) (kind.Handle ∷ []) (field.Mac ∷ []) []
    ∷ row (codes "cipher_encrypt_setup") (command.Cipher cipher.EncryptSetup) (kind.Handle ∷ kind.Key ∷ []) (field.Alg ∷ []) []
    ∷ row (codes "cipher_decrypt_setup") (command.Cipher cipher.DecryptSetup) (kind.Handle ∷ kind.Key ∷ []) (field.Alg ∷ []) []
    ∷ row (codes "cipher_generate_iv") (command.Cipher cipher.GenerateIv) (kind.Handle ∷ []) [] (field.Room ∷ [])
    ∷ row (codes "cipher_set_iv") (command.Cipher cipher.SetIv) (kind.Handle ∷ []) (field.Iv ∷ []) []
    ∷ row (codes "cipher_update") (command.Cipher cipher.Update) (kind.Handle ∷ []) (field.Data ∷ []) (field.Room ∷ [])
    ∷ row (codes "cipher_finish") (command.Cipher cipher.Finish) (kind.Handle ∷ []) [] (field.Room ∷ [])
    ∷ row (codes "aead_encrypt_setup") (command.Aead aead.EncryptSetup) (kind.Handle ∷ kind.Key ∷ []) (field.Alg ∷ []) []
    ∷ row (codes "aead_decrypt_setup") (command.Aead aead.DecryptSetup) (kind.Handle ∷ kind.Key ∷ []) (field.Alg ∷ []) []
    ∷ row (codes "aead_generate_nonce") (command.Aead aead.GenerateNonce) (kind.Handle ∷ []) [] (field.Room ∷ [])
    ∷ row (codes "aead_set_nonce") (command.Aead aead.SetNonce) (kind.Handle ∷ []) (field.Nonce ∷ []) []
    ∷ row (codes "aead_set_lengths") (command.Aead aead.SetLengths) (kind.Handle ∷ []) (field.AdLength ∷ field.PlainLength ∷ []) []
    ∷ row (codes "aead_update_ad") (command.Aead aead.UpdateAd) (kind.Handle ∷ []) (field.Data ∷ []) []
    ∷ row (codes "aead_update") (command.Aead aead.Update) (kind.Handle ∷ []) (field.Data ∷ []) (field.Room ∷ [])
    ∷ row (codes "aead_finish") (command.Aead aead.Finish) (kind.Handle ∷ []) [] (field.Room ∷ [])
    ∷ row (codes "aead_verify") (command.Aead aead.Verify) (kind.Handle ∷ []) (field.Tag ∷ []) []
    ∷ row (codes "kdf_setup") (command.Derivation derivation.Setup) (kind.Handle ∷ []) (field.Alg ∷ []) []
    ∷ row (codes "kdf_get_capacity") (command.Derivation derivation.GetCapacity) (kind.Handle ∷ []) [] []
    ∷ row (codes "kdf_set_capacity") (command.Derivation derivation.SetCapacity) (kind.Handle ∷ []) (field.Capacity ∷ []) []
    ∷ row (codes "kdf_input_bytes") (command.Derivation derivation.InputBytes) (kind.Handle ∷ []) (field.Step ∷ field.Data ∷ []) []
    ∷ row (codes "kdf_input_integer") (command.Derivation derivation.InputInteger) (kind.Handle ∷ []) (field.Step ∷ field.Value ∷ []) []
    ∷ row (codes "kdf_input_key") (command.Derivation derivation.InputKey) (kind.Handle ∷ kind.Key ∷ []) (field.Step ∷ []) []
    ∷ row (codes "kdf_output_bytes") (command.Derivation derivation.OutputBytes) (kind.Handle ∷ []) (field.Length ∷ []) []
    ∷ row (codes "kdf_output_key") (command.Derivation derivation.OutputKey) (kind.Handle ∷ kind.Name ∷ []) (field.Type ∷ field.Bits ∷ field.Usage ∷ field.Alg ∷ []) (field.Life ∷ field.Id ∷ field.Alg2 ∷ [])
    ∷ row (codes "kdf_verify_bytes") (command.Derivation derivation.VerifyBytes) (kind.Handle ∷ []) (field.Data ∷ []) []
    ∷ row (codes "abort") command.Abort (kind.Handle ∷ []) [] []
    ∷ []

unfoldable pub row_named : List ℕ → Option Shape
row_named word = find (λ r. bytes_eq r.word word) rows

-- a row of the table
abbrev pub IsRow : Shape → Type 0
IsRow r = row_named r.word ≡ Some r

-- the key that a word names, by the identifiers that the session's calls before gave
abbrev pub key_id_of : List ℕ → KeyWord → ℕ
key_id_of ids (Given id) = id.0
key_id_of ids (Line place) = slice_index ids place

-- what a line asks, by the key that it names and its fields

abbrev pub key_call : KeyCommand → ℕ → Fields → store.Call
key_call key.Import id fs = store.Import (attributes_at fs) (data_at fs)
key_call key.Generate id fs = store.Generate (attributes_at fs)
key_call key.Copy id fs = store.Copy id (attributes_at fs)
key_call key.Destroy id fs = store.Destroy id
key_call key.Purge id fs = store.Purge id
key_call key.Attributes id fs = store.GetAttributes id
key_call key.Export id fs = store.Export id (room_at fs)

abbrev pub single_part_call : SinglePartCommand → ℕ → Fields → store.Call
single_part_call single.HashCompute id fs = store.HashCompute (alg_at fs) (data_at fs) (room_at fs)
single_part_call single.HashCompare id fs = store.HashCompare (alg_at fs) (data_at fs) (bytes_at field.Hash fs)
single_part_call single.MacCompute id fs = store.MacCompute id (alg_at fs) (data_at fs) (room_at fs)
single_part_call single.MacVerify id fs = store.MacVerify id (alg_at fs) (data_at fs) (bytes_at field.Mac fs)
single_part_call single.CipherEncrypt id fs = store.CipherEncrypt id (alg_at fs) (data_at fs) (room_at fs)
single_part_call single.CipherDecrypt id fs = store.CipherDecrypt id (alg_at fs) (data_at fs) (room_at fs)
single_part_call single.AeadEncrypt id fs = store.AeadEncrypt id (alg_at fs) (bytes_at field.Nonce fs) (bytes_at field.Ad fs) (data_at fs) (room_at fs)
single_part_call single.AeadDecrypt id fs = store.AeadDecrypt id (alg_at fs) (bytes_at field.Nonce fs) (bytes_at field.Ad fs) (data_at fs) (room_at fs)

abbrev pub hash_call : HashCommand → Fields → operation.HandleCall
hash_call hash.Setup fs = operation.HashSetup (alg_at fs)
hash_call hash.Update fs = operation.OnHash (HashUpdate (data_at fs))
hash_call hash.Finish fs = operation.OnHash (HashFinish (room_at fs))
hash_call hash.Verify fs = operation.OnHash (HashVerify (bytes_at field.Hash fs))

abbrev pub mac_call : MacCommand → ℕ → Fields → operation.HandleCall
mac_call mac.SignSetup id fs = operation.MacSetup false id (alg_at fs)
mac_call mac.VerifySetup id fs = operation.MacSetup true id (alg_at fs)
mac_call mac.Update id fs = operation.OnMac (MacUpdate (data_at fs))
mac_call mac.SignFinish id fs = operation.OnMac (MacSignFinish (room_at fs))
mac_call mac.VerifyFinish id fs = operation.OnMac (MacVerifyFinish (bytes_at field.Mac fs))

abbrev pub cipher_call : CipherCommand → ℕ → Fields → operation.HandleCall
cipher_call cipher.EncryptSetup id fs = operation.CipherSetup true id (alg_at fs)
cipher_call cipher.DecryptSetup id fs = operation.CipherSetup false id (alg_at fs)
cipher_call cipher.GenerateIv id fs = operation.OnCipher (CipherGenerateIv (room_at fs))
cipher_call cipher.SetIv id fs = operation.OnCipher (CipherSetIv (bytes_at field.Iv fs))
cipher_call cipher.Update id fs = operation.OnCipher (CipherUpdate (data_at fs) (room_at fs))
cipher_call cipher.Finish id fs = operation.OnCipher (CipherFinish (room_at fs))

abbrev pub aead_call : AeadCommand → ℕ → Fields → operation.HandleCall
aead_call aead.EncryptSetup id fs = operation.AeadSetup true id (alg_at fs)
aead_call aead.DecryptSetup id fs = operation.AeadSetup false id (alg_at fs)
aead_call aead.GenerateNonce id fs = operation.OnAead (AeadGenerateNonce (room_at fs))
aead_call aead.SetNonce id fs = operation.OnAead (AeadSetNonce (bytes_at field.Nonce fs))
aead_call aead.SetLengths id fs = operation.OnAead (AeadSetLengths (long_at field.AdLength fs) (long_at field.PlainLength fs))
aead_call aead.UpdateAd id fs = operation.OnAead (AeadUpdateAd (data_at fs))
aead_call aead.Update id fs = operation.OnAead (AeadUpdate (data_at fs) (room_at fs))
aead_call aead.Finish id fs = operation.OnAead (AeadFinish (room_at fs))
aead_call aead.Verify id fs = operation.OnAead (AeadVerify (bytes_at field.Tag fs))

abbrev pub derivation_call : DerivationCommand → ℕ → Fields → operation.HandleCall
derivation_call derivation.Setup id fs = operation.DerivationSetup (alg_at fs)
derivation_call derivation.GetCapacity id fs = operation.OnDerivation GetCapacity
derivation_call derivation.SetCapacity id fs = operation.OnDerivation (SetCapacity (long_at field.Capacity fs))
derivation_call derivation.InputBytes id fs = operation.OnDerivation (InputBytes (short_at 0 field.Step fs) (data_at fs))
derivation_call derivation.InputInteger id fs = operation.OnDerivation (InputInteger (short_at 0 field.Step fs) (long_at field.Value fs))
derivation_call derivation.InputKey id fs = operation.InputKey (short_at 0 field.Step fs) id
derivation_call derivation.OutputBytes id fs = operation.OnDerivation (OutputBytes (room_at fs))
derivation_call derivation.OutputKey id fs = operation.OutputKey (attributes_at fs)
derivation_call derivation.VerifyBytes id fs = operation.OnDerivation (VerifyBytes (data_at fs))

-- the request of a command with a key and a handle, where its line names them, and fields
abbrev pub request : ScriptCommand → (id handle : ℕ) → Fields → Request
request (command.Key c) id handle fs = OnStore (key_call c id fs)
request (command.SinglePart c) id handle fs = OnStore (single_part_call c id fs)
request (command.Hash c) id handle fs = OnHandle handle (hash_call c fs)
request (command.Mac c) id handle fs = OnHandle handle (mac_call c id fs)
request (command.Cipher c) id handle fs = OnHandle handle (cipher_call c id fs)
request (command.Aead c) id handle fs = OnHandle handle (aead_call c id fs)
request (command.Derivation c) id handle fs = OnHandle handle (derivation_call c id fs)
request command.Abort id handle fs = OnHandle handle operation.Abort

-- the request that a line makes, where its session's calls before gave these identifiers
abbrev pub request_of : List ℕ → ScriptCall → Request
request_of ids call = request call.command (key_id_of ids call.key) call.handle call.fields
