use Rattle.locked_store.proofs.{Common.HasNumber, Common.Plain, Common.ap, Common.lease_pair, Common.model_request, Common.on_err_weaker, Common.on_ok_weaker, Turns.counts, Turns.few, Turns.in_turn, Turns.out, Turns.ranked, Turns.steady, Turns.steps, Turns.turned_after}
use Rattle.locked_store.proofs.held.SharedStore.step.Goals as goal

pub step_operation-stepped-requires-clause-few : goal.step_operation-stepped-requires-clause-few
step_operation-stepped-requires-clause-few g c κs within = few (in_turn c.enter-turn.ensures.begun c.enter-turn.ensures.stands c.enter-turn.ensures.opened (ap (λ v. v.store) c.value.ensures.value))

pub step_operation-stepped-requires-clause-out : goal.step_operation-stepped-requires-clause-out
step_operation-stepped-requires-clause-out g c κs within = out (in_turn c.enter-turn.ensures.begun c.enter-turn.ensures.stands c.enter-turn.ensures.opened (ap (λ v. v.store) c.value.ensures.value)) (lease_pair c.args.lease.now) c.requires.out

pub leave_ranked-rank-requires-clause-begun : goal.leave_ranked-rank-requires-clause-begun
leave_ranked-rank-requires-clause-begun g c κs within = rw c.of-before.ensures c.enter-turn.ensures.begun

pub leave_ranked-rank-requires-clause-stands : goal.leave_ranked-rank-requires-clause-stands
leave_ranked-rank-requires-clause-stands g c κs within =
    let t = in_turn c.enter-turn.ensures.begun c.enter-turn.ensures.stands c.enter-turn.ensures.opened (ap (λ v. v.store) c.value.ensures.value) in
    let l = c.step_operation-stepped.ensures in
    (turned_after t (model_request c.args.call.now c.args.room) Plain c.enter-turn.new.pass.me.0.holding (λ m. Unit {0}) (steady t c.step_operation-stepped.new.self l.opened l.file l.devices l.buffer) (counts t c.step_operation-stepped.new.self (model_request c.args.call.now c.args.room) l.adds c.requires.leaves)).stands

pub returns-clause-alive : goal.returns-clause-alive
returns-clause-alive g c =
    let t = in_turn c.enter-turn.ensures.begun c.enter-turn.ensures.stands c.enter-turn.ensures.opened (ap (λ v. v.store) c.value.ensures.value) in
    let l = c.step_operation-stepped.ensures in
    on_ok_weaker c.step_operation-stepped.result (λ stepped. ranked (rw c.of-before.ensures at c.leave_ranked-rank.ensures.entered)
    (turned_after t (model_request c.args.call.now c.args.room) Plain c.enter-turn.new.pass.me.0.holding (λ m. HasNumber m c.args.lease.now.creation) (steady t c.step_operation-stepped.new.self l.opened l.file l.devices l.buffer) (steps t c.step_operation-stepped.new.self (model_request c.args.call.now c.args.room) (lease_pair c.args.lease.now) (λ m. HasNumber m c.args.lease.now.creation) stepped c.requires.out c.requires.leaves)).decided) l.alive

pub returns-clause-gone : goal.returns-clause-gone
returns-clause-gone g c =
    let t = in_turn c.enter-turn.ensures.begun c.enter-turn.ensures.stands c.enter-turn.ensures.opened (ap (λ v. v.store) c.value.ensures.value) in
    let l = c.step_operation-stepped.ensures in
    on_err_weaker c.step_operation-stepped.result (λ stepped. ranked (rw c.of-before.ensures at c.leave_ranked-rank.ensures.entered)
    (turned_after t (model_request c.args.call.now c.args.room) Plain c.enter-turn.new.pass.me.0.holding (λ m. HasNumber m c.args.lease.now.creation → ⊥) (steady t c.step_operation-stepped.new.self l.opened l.file l.devices l.buffer) (steps t c.step_operation-stepped.new.self (model_request c.args.call.now c.args.room) (lease_pair c.args.lease.now) (λ m. HasNumber m c.args.lease.now.creation → ⊥) stepped c.requires.out c.requires.leaves)).decided) l.gone
