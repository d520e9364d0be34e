-- Calls in one part are the model's.
use Rattle.std.proofs.Common.{Option, ap, false, refl, true, ℕ, ◌≡◌}
use Rattle.single_part.proofs.Common.{AeadDecrypt, AeadEncrypt, CipherDecrypt, CipherEncrypt, Compare, Compute, Export, HashCallsAreTheModels, KeyedCall, KeyedCallsAreTheModels, Mac, MacCompute, MacVerify, Random, Status, Store, bytes_of_key, cipher_usage, computed_by, computed_unless, mac_usage, with_computed}
use Rattle.std.specs.FinMap as map
use Rattle.single_part.proofs.Uses.{cipher_use, export_is, local_use}

-- where the refusals are those of the use
by_refusal : (store : Store) (random : Random) (call : KeyedCall) (id room : ℕ) (o p : Option Status) → o ≡ p →
    with_computed store (computed_unless o (computed_by call (bytes_of_key (map.get store.keys id)) random room))
    ≡ with_computed store (computed_unless p (computed_by call (bytes_of_key (map.get store.keys id)) random room))
by_refusal store random call id room o p same =
    ap (λ o. with_computed store (computed_unless o (computed_by call (bytes_of_key (map.get store.keys id)) random room))) same

pub keyed : KeyedCallsAreTheModels
keyed store caller random Export id room local = ap (with_computed store) (export_is (map.get store.keys id) room)
keyed store caller random (MacCompute alg input) id room local =
    by_refusal store random (MacCompute alg input) id room _ _ (local_use true Mac (mac_usage false) alg.0 (map.get store.keys id) (local refl))
keyed store caller random (MacVerify alg input mac) id room local =
    by_refusal store random (MacVerify alg input mac) id room _ _ (local_use true Mac (mac_usage true) alg.0 (map.get store.keys id) (local refl))
keyed store caller random (CipherEncrypt alg input) id room local =
    by_refusal store random (CipherEncrypt alg input) id room _ _ (cipher_use (cipher_usage true) alg.0 (map.get store.keys id) local)
keyed store caller random (CipherDecrypt alg input) id room local =
    by_refusal store random (CipherDecrypt alg input) id room _ _ (cipher_use (cipher_usage false) alg.0 (map.get store.keys id) local)
keyed store caller random (AeadEncrypt alg nonce ad input) id room local = refl
keyed store caller random (AeadDecrypt alg nonce ad input) id room local = refl

pub hashes : HashCallsAreTheModels
hashes store caller random (Compute alg input) room = refl
hashes store caller random (Compare alg input hash) room = refl
