use Rattle.aead_ccm.proofs.Common.{ap, control_block, in_bytes, length, ℕ, ◌++◌, ◌-◌, ◌∙◌, ◌∷◌}
use Rattle.aead_ccm.proofs.formatting.control_block.Goals as goal

pub returns : goal.returns
unfolding control_block
returns c = c.nonce_block.ensures ∙ ap (λ (f : ℕ). f ∷ c.args.nonce.now ++ in_bytes (15 - length c.args.nonce.now) c.args.payload) c.flags.ensures
