-- Calls in one part that the secure element computes.
use Rattle.std.specs.Prelude.{◌≡◌, Bool, true, false, ◌==◌}
use Rattle.service_calls.specs.declared.store_calls.KeyedCall.{KeyedCall}
use Rattle.service_calls.specs.declared.store_calls.KeyedCall.TheVariants as call
use Rattle.secure_element_calls.specs.{Calls.ctr, declared.calls.ElementCall.ElementCall}
use Rattle.secure_element_calls.specs.declared.calls.ElementCall.TheVariants as element

-- MACs, and texts in CTR mode
abbrev pub is_of_element : KeyedCall → Bool
is_of_element (call.MacCompute alg input) = true
is_of_element (call.MacVerify alg input mac) = true
is_of_element (call.CipherEncrypt alg input) = alg.0 == ctr
is_of_element (call.CipherDecrypt alg input) = alg.0 == ctr
is_of_element _ = false

-- the element's call is this one: its algorithm, and what it is computed of
abbrev pub IsElementCall : KeyedCall → ElementCall → Type 0
IsElementCall (call.MacCompute alg input) (element.MacCompute a i) = (a ≡ alg) × (i.now ≡ input.now)
IsElementCall (call.MacVerify alg input mac) (element.MacVerify a i m) = (a ≡ alg) × (i.now ≡ input.now) × (m.now ≡ mac.now)
IsElementCall (call.CipherEncrypt alg input) (element.CtrEncrypt iv i) = (alg.0 ≡ ctr) × (i.now ≡ input.now)
IsElementCall (call.CipherDecrypt alg input) (element.CtrDecrypt i) = (alg.0 ≡ ctr) × (i.now ≡ input.now)
IsElementCall _ _ = ⊥

-- whether the call, or the element's, begins with a fresh initialisation vector; that of ECB has no bytes
abbrev pub takes_vector : KeyedCall → Bool
takes_vector (call.CipherEncrypt alg input) = true
takes_vector _ = false

abbrev pub has_vector : ElementCall → Bool
has_vector (element.CtrEncrypt iv input) = true
has_vector _ = false
