use Rattle.locked_store.proofs.{Common.IsHolding, Common.ap, Common.filling_pair, Common.subst, Common.sym, Common.◌∷◌, Owning.one_filling_more, Turns.after_giving, Turns.in_turn, Turns.stands_some, Turns.steady}
use Rattle.locked_store.proofs.held.SharedStore.reserve.Goals as goal

pub reserve-filling-requires-clause-stands : goal.reserve-filling-requires-clause-stands
reserve-filling-requires-clause-stands g c κs within = stands_some (in_turn c.enter-turn.ensures.begun c.enter-turn.ensures.stands c.enter-turn.ensures.opened (ap (λ v. v.store) c.value.ensures.value))

pub leave_unranked-requires-clause-begun : goal.leave_unranked-requires-clause-begun
leave_unranked-requires-clause-begun g c κs within = rw c.of-before.ensures c.enter-turn.ensures.begun

pub leave_unranked-requires-clause-stands : goal.leave_unranked-requires-clause-stands
leave_unranked-requires-clause-stands g c κs within =
    let t = in_turn c.enter-turn.ensures.begun c.enter-turn.ensures.stands c.enter-turn.ensures.opened (ap (λ v. v.store) c.value.ensures.value) in
    let l = c.reserve-filling.ensures in
    rw c.of.ensures (after_giving t c.reserve-filling.new.self (filling_pair c.reserve-filling.result) (steady t c.reserve-filling.new.self l.opened l.file l.devices l.buffer)
    (subst (λ own. IsHolding (filling_pair c.reserve-filling.result ∷ own)) (sym c.enter-turn.ensures.begun.same_holding) (one_filling_more c.reserve-filling.result.slot c.args.pass.now.me.0.holding c.requires.space c.requires.at.holding)) l.gives)
