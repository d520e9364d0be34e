use Rattle.std.proofs.Common.{subst, sym, ◌≡◌}
use Rattle.store_model.specs.Prelude.{aead_step}
use Rattle.service_calls.specs.Meanings.{model_aead_step}
use Rattle.aead_states.proofs.running.RunningAeadStepsAeadStep.draws.Goals as goal

pub returns-in-GenerateNonce-clause-drawn : goal.returns-in-GenerateNonce-clause-drawn
returns-in-GenerateNonce-clause-drawn c = λ r w h.
    subst (λ s. c.nonce_draws.result ≡ (aead_step r w (model_aead_step s c.args.room)).drawn) (sym c.in-GenerateNonce.is) (c.nonce_draws.ensures.drawn r w h)
