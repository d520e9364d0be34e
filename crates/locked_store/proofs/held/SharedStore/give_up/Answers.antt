use Rattle.locked_store.proofs.{Common.ap, Common.filling_pair, Turns.after_taking, Turns.in_turn, Turns.out, Turns.steady}
use Rattle.locked_store.proofs.held.SharedStore.give_up.Goals as goal

pub give_up-requires-clause-out : goal.give_up-requires-clause-out
give_up-requires-clause-out g c κs within = out (in_turn c.enter-turn.ensures.begun c.enter-turn.ensures.stands c.enter-turn.ensures.opened (ap (λ v. v.store) c.value.ensures.value)) (filling_pair c.args.filling) c.requires.out

pub leave_unranked-requires-clause-begun : goal.leave_unranked-requires-clause-begun
leave_unranked-requires-clause-begun g c κs within = rw c.of-before.ensures c.enter-turn.ensures.begun

pub leave_unranked-requires-clause-stands : goal.leave_unranked-requires-clause-stands
leave_unranked-requires-clause-stands g c κs within =
    let t = in_turn c.enter-turn.ensures.begun c.enter-turn.ensures.stands c.enter-turn.ensures.opened (ap (λ v. v.store) c.value.ensures.value) in
    let l = c.give_up.ensures in
    rw c.of.ensures (after_taking t c.give_up.new.self (filling_pair c.args.filling) (steady t c.give_up.new.self l.opened l.file l.devices l.buffer) c.requires.at.holding c.requires.out l.takes)
