use Rattle.callers.proofs.{Common.HoldsLease, Common.ap, Common.arith, Common.begun_with, Common.bytes_of, Common.get_or, Common.operation_at, Common.refl, Common.set, Common.subst, Common.sym, Common.◌-◌, Common.◌<◌, Common.◌∙◌, Changing.kept}
use Rattle.callers.proofs.handles.Handles.begin_with.Goals as goal

pub begin_with-requires-clause-free : goal.begin_with-requires-clause-free
begin_with-requires-clause-free c = λ operation is. c.requires.free c.index_mut.result.now operation (c.index_mut.ensures.value ∙ ap (λ i. get_or c.args.self.now.list.items i c.index_mut.result.now) c.place.ensures.place) is

pub begin_with-requires-clause-none : goal.begin_with-requires-clause-none
begin_with-requires-clause-none c = c.requires.none c.index_mut.result.now (c.index_mut.ensures.value ∙ ap (λ i. get_or c.args.self.now.list.items i c.index_mut.result.now) c.place.ensures.place)

pub returns-clause-kept : goal.returns-clause-kept
returns-clause-kept c = λ operations key are number.
    let cells = c.args.self.now.list.items in let op = c.args.op in let cell = c.index_mut.result.now in let next = c.begin_with.new.self in let begun = begun_with c.args.purpose c.args.alg key (bytes_of c.args.lease.buffer) in
    let at = c.index_mut.ensures.value ∙ ap (λ i. get_or cells i cell) c.place.ensures.place in let inside : op - 1 < 4 = omega (arith, c.place.ensures.last) in
    subst (λ i. HoldsLease cells (set cells i next) operations op begun c.args.lease) (sym c.place.ensures.place)
    (kept cells operations op cell next begun c.args.lease are inside at (c.requires.none cell at) c.begin_with.ensures.lease (c.begin_with.ensures.state (operation_at operations op) key (are.each (op - 1) cell inside at) number) refl)
