-- The refusals of a key's use, on a key that the secure element doesn't hold or doesn't compute with.
use Rattle.std.proofs.Common.{Bool, None, Option, Some, bit_and, cond, false, if◌then◌else◌, length, refl, true, ℕ, ◌==◌, ◌≡◌}
use Rattle.single_part.proofs.Common.{bytes_of_key, CbcNoPadding, CbcPkcs7, Cipher, Class, computed_unless, Ctr, EcbNoPadding, export_refusal, export_reply, exported_reply, first_row, given, is_ctr, is_opaque, is_opaque_key, Key, mode_of, NotPermitted, NotSupported, replies, Reply, reply_unless, room_rows, Status, use_rows}
use Rattle.key_policy.proofs.Devices.{local_alike}
use Rattle.secure_element_calls.specs.Calls.{ctr}

-- a key that the element doesn't hold
pub local_use : (on_device : Bool) (class : Class) (usage alg : ℕ) (found : Option Key) → is_opaque_key found ≡ false →
    first_row (use_rows on_device class usage alg found) ≡ first_row (use_rows false class usage alg found)
local_use on_device class usage alg None local = refl
local_use on_device class usage alg (Some key) local = local_alike on_device class usage alg key local

by_mode : (b c d : Bool) (usage alg : ℕ) (found : Option Key) → (b ≡ true → is_opaque_key found ≡ false) →
    first_row (use_rows (is_ctr (if b then Ctr else if c then CbcNoPadding else if d then CbcPkcs7 else EcbNoPadding)) Cipher usage alg found)
    ≡ first_row (use_rows false Cipher usage alg found)
by_mode true c d usage alg found local = local_use true Cipher usage alg found (local refl)
by_mode false true d usage alg found local = refl
by_mode false false true usage alg found local = refl
by_mode false false false usage alg found local = refl

-- a cipher that isn't CTR
pub cipher_use : (usage alg : ℕ) (found : Option Key) → ((alg == ctr) ≡ true → is_opaque_key found ≡ false) →
    first_row (use_rows (is_ctr (mode_of alg)) Cipher usage alg found) ≡ first_row (use_rows false Cipher usage alg found)
cipher_use usage alg found local = by_mode (alg == ctr) (alg == 0x04404000) (alg == 0x04404100) usage alg found local

by_rows : (a b : Bool) (last : Option Status) (reply : Reply) →
    replies (reply_unless (cond a (Some NotPermitted) (cond b (Some NotSupported) last)) reply)
    ≡ computed_unless (cond a (Some NotPermitted) (cond b (Some NotSupported) None)) (replies (reply_unless last reply))
by_rows true b last reply = refl
by_rows false true last reply = refl
by_rows false false last reply = refl

-- EXPORT: the row of the room comes last
pub export_is : (found : Option Key) (room : ℕ) → replies (export_reply found room) ≡ computed_unless (export_refusal found) (replies (exported_reply (bytes_of_key found) room))
export_is None room = refl
export_is (Some key) room = by_rows (bit_and key.attributes.policy.usage.0 1 == 0) (is_opaque key.attributes) (first_row (room_rows (length key.bytes) room)) (given key.bytes)
