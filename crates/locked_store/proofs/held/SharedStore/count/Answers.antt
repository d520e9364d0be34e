use Rattle.locked_store.proofs.{Common.Plain, Common.ap, Common.model_request, Turns.counts, Turns.few, Turns.in_turn, Turns.steady, Turns.turned_after}
use Rattle.locked_store.proofs.held.SharedStore.count.Goals as goal

pub count-requires-clause-few : goal.count-requires-clause-few
count-requires-clause-few g c κs within = few (in_turn c.enter-turn.ensures.begun c.enter-turn.ensures.stands c.enter-turn.ensures.opened (ap (λ v. v.store) c.value.ensures.value))

pub leave_ranked-requires-clause-begun : goal.leave_ranked-requires-clause-begun
leave_ranked-requires-clause-begun g c κs within = rw c.of-before.ensures c.enter-turn.ensures.begun

pub leave_ranked-requires-clause-stands : goal.leave_ranked-requires-clause-stands
leave_ranked-requires-clause-stands g c κs within =
    let t = in_turn c.enter-turn.ensures.begun c.enter-turn.ensures.stands c.enter-turn.ensures.opened (ap (λ v. v.store) c.value.ensures.value) in
    let l = c.count.ensures in
    (turned_after t (model_request c.args.call.now c.args.room) Plain c.enter-turn.new.pass.me.0.holding (λ m. Unit {0}) (steady t c.count.new.self l.opened l.file l.devices l.buffer) (counts t c.count.new.self (model_request c.args.call.now c.args.room) l.adds c.requires.leaves)).stands
