use Rattle.callers.proofs.{Common.Inactive, Common.IsChanged, Common.ap, Common.arith, Common.get_or, Common.set, Common.subst, Common.sym, Common.◌-◌, Common.◌<◌, Common.◌∙◌, Changing.wiped}
use Rattle.callers.proofs.handles.Handles.abort.Goals as goal

pub returns-clause-changed : goal.returns-clause-changed
returns-clause-changed c = λ operations are.
    let at = c.index_mut.ensures.value ∙ ap (λ i. get_or c.args.self.now.list.items i c.index_mut.result.now) c.place.ensures.place in
    let inside : c.args.op - 1 < 4 = omega (arith, c.place.ensures.last) in
    subst (λ i. IsChanged c.args.self.now.list.items (set c.args.self.now.list.items i c.wipe.new.self) operations c.args.op Inactive c.wipe.result) (sym c.place.ensures.place)
    (wiped c.args.self.now.list.items operations c.args.op c.index_mut.result.now c.wipe.new.self Inactive c.wipe.result are inside at c.wipe.ensures.lease c.wipe.ensures.none c.wipe.ensures.state)
