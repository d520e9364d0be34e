-- The bytes of a key that is lent.
use Rattle.store_core.proofs.Common.{[], ap, as_stated, attribute_rows, Attributes, Bool, cond, false, filled, first_row, has_secure_element, identified, is_volatile, IsSoundKey, IsTrue, Key, KeyUse, length, local, Model, None, none_holds, not-false, permits_size, refl, slot_bytes, Some, subst, true, unless-ok, use_refusal, ℕ, ◌≡◌}

-- the slot of a local key has its bytes
pub has_bytes : (wanted : KeyUse) (key : Key) → use_refusal wanted (Some key) ≡ None → slot_bytes key ≡ key.bytes
has_bytes wanted key is = ap (λ b. cond b [] key.bytes) (local wanted key is)

-- a stated identifier is none of the type
same_type : (volatile : Bool) (a : Attributes) → (cond volatile (identified a 0) a).key_type.0 ≡ a.key_type.0
same_type true a = refl
same_type false a = refl

-- a key has a number of bytes that its type permits
pub sized : (m : Model) (id : ℕ) (key : Key) → IsSoundKey m id key → IsTrue (permits_size key.attributes.key_type.0 (length key.bytes))
sized m id key sound =
    let a = as_stated key.attributes in
    let n = length key.bytes in
    let rows = attribute_rows a n (has_secure_element m) in
    subst (λ t. IsTrue (permits_size t n)) (same_type (is_volatile key.attributes) key.attributes)
    (not-false (permits_size a.key_type.0 n) (none_holds rows 4 (unless-ok (first_row rows) (filled a n) a sound.attributes).0))
