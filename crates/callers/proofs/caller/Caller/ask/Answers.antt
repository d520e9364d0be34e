use Rattle.callers.proofs.{Common.ap, Common.arith, Common.length, Common.model_request, Common.option_map, Common.subst, Common.sym, Common.world, Common.◌+◌, Common.◌-◌, Common.◌<◌, Common.◌∙◌, Asking.asked_with, Asking.asked_without, HandleLists.cell_at, HandleLists.named_alike, HandleLists.names_lease}
use Rattle.callers.proofs.caller.Caller.ask.Goals as goal

pub step-rank-requires-clause-out : goal.step-rank-requires-clause-out
step-rank-requires-clause-out g c κs within =
    let ready = c.requires.ready in
    let inside : c.args.op - 1 < length c.args.self.now.handles.list.items = let z = ready.stand.cells_are in let y = c.lease.ensures.last in omega arith in
    let cell = cell_at c.args.self.now.handles.list.items (c.args.op - 1) inside in
    let leased = sym (c.lease.ensures.lease cell.0 cell.1) ∙ ap (option_map (λ l. l.now)) c.in-Some.is in
    let lease = c.in-Some.lease.now in
    subst (λ k. 0 < k) (sym (named_alike c.args.self.now.pass.me.0.holding _ lease.slot (lease.creation + 1) ready.leases)) (names_lease c.args.self.now.handles.list.items (c.args.op - 1) cell.0 lease inside cell.1 leased)

pub returns-in-Some-clause-ranked : goal.returns-in-Some-clause-ranked
returns-in-Some-clause-ranked g c =
    let ready = c.requires.ready in
    let cell = cell_at c.args.self.now.handles.list.items (c.args.op - 1) (let z = ready.stand.cells_are in let y = c.lease.ensures.last in omega arith) in
    asked_with (world c.args.shared.now) 1 c.args.self.now (record c.args.self.now { pass = c.step-rank.new.pass }) ready (model_request c.args.call.now c.args.room) c.step-rank.result.0 c.args.op c.lease.ensures.first c.lease.ensures.last cell.0 cell.1
    c.in-Some.lease.now c.step-rank.result.1 c.is_ok.result c.is_ok.ensures.value (sym (c.lease.ensures.lease cell.0 cell.1) ∙ ap (option_map (λ l. l.now)) c.in-Some.is) c.requires.leaves c.step-rank.ensures.alive c.step-rank.ensures.gone

pub returns-in-None-clause-ranked : goal.returns-in-None-clause-ranked
returns-in-None-clause-ranked g c =
    let ready = c.requires.ready in
    let cell = cell_at c.args.self.now.handles.list.items (c.args.op - 1) (let z = ready.stand.cells_are in let y = c.lease.ensures.last in omega arith) in
    asked_without (world c.args.shared.now) 1 c.args.self.now (record c.args.self.now { pass = c.count.new.pass }) ready (model_request c.args.call.now c.args.room) c.count.result c.args.op c.lease.ensures.first c.lease.ensures.last cell.0 cell.1
    (sym (c.lease.ensures.lease cell.0 cell.1) ∙ ap (option_map (λ l. l.now)) c.in-None.is) c.count.ensures.counted
