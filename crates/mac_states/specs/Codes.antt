-- Whether what computes a MAC has its key, as a test.
use Rattle.std.specs.Prelude.{Bool, true}
use Rattle.key_policy.specs.Keys.{is_key}
use Rattle.mac_states.specs.declared.running_mac.Code.{Code}
use Rattle.mac_states.specs.declared.running_mac.Code.TheVariants as code

-- an HMAC's needs no look
abbrev pub is_keyed : Code → Bool
is_keyed (code.Hmac hmac) = true
is_keyed (code.Cmac cmac) = is_key cmac.key
