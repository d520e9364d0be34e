use Rattle.hmac_ops.proofs.Common.{add_state, ap, ap₂, arith, compress, refl, rounds, ◌*◌, ◌∙◌, ◌≡◌}
use Rattle.hmac_ops.proofs.compression.compress.Goals as goal

pub turns-init : goal.turns-init
unfolding rounds
turns-init c = refl

pub returns : goal.returns
unfolding compress
returns c =
    let h = c.args.hash_value.now in
    let done : 8 * c.turns.turn ≡ 64 = omega arith in
    c.added.ensures ∙ ap (add_state h) (c.turns.invariant ∙ ap₂ (rounds h) c.message_schedule.ensures done)
