-- Where a device that has the key computes a call, and where it doesn't.
use Rattle.std.proofs.Common.{Bool, None, Option, Some, [], ap, cond, false, not, sym, true, ℕ, ◌&&◌, ◌++◌, ◌∙◌, ◌∷◌, ◌≡◌}
use Rattle.key_policy.proofs.Common.{Class, InvalidArgument, Key, NotPermitted, NotSupported, Status, class_rows, first_row, fits_type, is_opaque, use_rows}
use Rattle.policy_rules.specs.Policy.{may_use}

-- a table whose last row is that of a key which only a device has
abbrev Last : (a b c d last : Bool) → Option Status
Last a b c d last = cond a (Some NotSupported) (cond b (Some InvalidArgument) (cond c (Some NotPermitted) (cond d (Some InvalidArgument) (cond last (Some NotSupported) None))))

refused_before : (a b c d opaque : Bool) (status : Status) → Last a b c d (opaque && false) ≡ Some status → Last a b c d (opaque && true) ≡ Some status
refused_before false false false false true status is = cc
refused_before a b c d opaque status is = is

-- what refuses a call that the device computes refuses also one that it doesn't
pub refused_alike : (class : Class) (usage alg : ℕ) (key : Key) (status : Status) → first_row (use_rows true class usage alg (Some key)) ≡ Some status → first_row (use_rows false class usage alg (Some key)) ≡ Some status
refused_alike class usage alg key status is = refused_before _ _ (not (may_use key.attributes.policy usage alg)) (not (fits_type alg key.attributes.key_type.0)) (is_opaque key.attributes) status is

-- a local key is used in each call alike
pub local_alike : (on_device : Bool) (class : Class) (usage alg : ℕ) (key : Key) → is_opaque key.attributes ≡ false →
    first_row (use_rows on_device class usage alg (Some key)) ≡ first_row (use_rows false class usage alg (Some key))
local_alike on_device class usage alg key local =
    let rows = λ (b on : Bool). first_row (class_rows class alg ++ (not (may_use key.attributes.policy usage alg), NotPermitted) ∷ (not (fits_type alg key.attributes.key_type.0), InvalidArgument) ∷ (b && not on, NotSupported) ∷ []) in
    ap (λ b. rows b on_device) local ∙ sym (ap (λ b. rows b false) local)
