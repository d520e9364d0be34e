use Rattle.hmac_ops.proofs.Common.{List, ap, block_length, hash_of, hmac, inner_pad, outer_pad, ℕ, ◌++◌, ◌∙◌}
use Rattle.hmac_ops.proofs.state.HmacState.finish.Goals as goal

pub returns-clause-code : goal.returns-clause-code
unfolding hmac
returns-clause-code c = λ which key m held.
    let hash = hash_of which in
    let n : ℕ = block_length which in
    let inner = c.finish-length.ensures.digest which (inner_pad hash n key ++ m) held.inner in
    let outer = c.finish.ensures.digest which _ (c.update.ensures.holds which (outer_pad hash n key) held.outer) in
    outer ∙ ap (λ (i : List ℕ). hash (outer_pad hash n key ++ i)) inner
