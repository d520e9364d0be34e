-- Which steps may take random bytes.
use Rattle.std.specs.Prelude.{Bool, true, false}
use Rattle.service_calls.specs.{declared.steps.CipherStep.CipherStep, declared.steps.CipherStep.TheVariants.GenerateIv, declared.steps.AeadStep.AeadStep, declared.steps.AeadStep.TheVariants.GenerateNonce}

abbrev pub takes_iv_bytes : CipherStep → Bool
takes_iv_bytes GenerateIv = true
takes_iv_bytes _ = false

abbrev pub takes_nonce_bytes : AeadStep → Bool
takes_nonce_bytes GenerateNonce = true
takes_nonce_bytes _ = false
