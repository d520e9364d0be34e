use Rattle.hmac_ops.proofs.Common.{List, ap, round, round_constants, slice_index, sym, ℕ, ◌∙◌}
use Rattle.sha2.proofs.Schedule256.{rounds_next}
use Rattle.hmac_ops.proofs.compression.round_at.Goals as goal

pub returns : goal.returns
returns c = λ h held.
    let t = c.args.t in
    let words = c.args.words.now in
    c.round.ensures ∙ ap (λ (v : List ℕ). round v (slice_index round_constants t) (slice_index words t)) held ∙ sym (rounds_next h words t)
