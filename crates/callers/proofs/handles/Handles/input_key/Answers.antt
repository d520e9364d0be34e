use Rattle.callers.proofs.{Common.HoldsLease, Common.ap, Common.arith, Common.get_or, Common.operation_at, Common.refl, Common.set, Common.subst, Common.sym, Common.with_secret, Common.◌-◌, Common.◌<◌, Common.◌∙◌, Changing.kept}
use Rattle.callers.proofs.handles.Handles.input_key.Goals as goal

pub input_key-requires-clause-takes : goal.input_key-requires-clause-takes
input_key-requires-clause-takes c = λ operation is. c.requires.takes c.index_mut.result.now operation (c.index_mut.ensures.value ∙ ap (λ i. get_or c.args.self.now.list.items i c.index_mut.result.now) c.place.ensures.place) is

pub input_key-requires-clause-none : goal.input_key-requires-clause-none
input_key-requires-clause-none c = c.requires.none c.index_mut.result.now (c.index_mut.ensures.value ∙ ap (λ i. get_or c.args.self.now.list.items i c.index_mut.result.now) c.place.ensures.place)

pub returns-clause-kept : goal.returns-clause-kept
returns-clause-kept c = λ operations w key are derives number.
    let cells = c.args.self.now.list.items in let op = c.args.op in let cell = c.index_mut.result.now in let next = c.input_key.new.self in let given = with_secret w key c.args.lease in
    let at = c.index_mut.ensures.value ∙ ap (λ i. get_or cells i cell) c.place.ensures.place in let inside : op - 1 < 4 = omega (arith, c.place.ensures.last) in
    subst (λ i. HoldsLease cells (set cells i next) operations op given c.args.lease) (sym c.place.ensures.place)
    (kept cells operations op cell next given c.args.lease are inside at (c.requires.none cell at) c.input_key.ensures.lease (c.input_key.ensures.state (operation_at operations op) w key (are.each (op - 1) cell inside at) derives number) refl)
