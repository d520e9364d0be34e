use Rattle.locked_store.proofs.{Common.ap, Common.lease_pair, Turns.after_taking, Turns.in_turn, Turns.out, Turns.steady}
use Rattle.locked_store.proofs.held.SharedStore.give_back.Goals as goal

pub leave-spare-requires-clause-out : goal.leave-spare-requires-clause-out
leave-spare-requires-clause-out g c κs within = out (in_turn c.enter-turn.ensures.begun c.enter-turn.ensures.stands c.enter-turn.ensures.opened (ap (λ v. v.store) c.value.ensures.value)) (lease_pair c.args.lease) c.requires.out

pub leave_unranked-requires-clause-begun : goal.leave_unranked-requires-clause-begun
leave_unranked-requires-clause-begun g c κs within = rw c.of-before.ensures c.enter-turn.ensures.begun

pub leave_unranked-requires-clause-stands : goal.leave_unranked-requires-clause-stands
leave_unranked-requires-clause-stands g c κs within =
    let t = in_turn c.enter-turn.ensures.begun c.enter-turn.ensures.stands c.enter-turn.ensures.opened (ap (λ v. v.store) c.value.ensures.value) in
    let l = c.leave-spare.ensures in
    rw c.of.ensures (after_taking t c.leave-spare.new.self (lease_pair c.args.lease) (steady t c.leave-spare.new.self l.opened l.file l.devices l.buffer) c.requires.at.holding c.requires.out l.takes)
