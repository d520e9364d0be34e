use Rattle.callers.proofs.{Common.InError, Common.IsChanged, Common.None, Common.ap, Common.arith, Common.get_or, Common.operation_at, Common.refl, Common.set, Common.subst, Common.sym, Common.◌-◌, Common.◌<◌, Common.◌∙◌, Changing.same_lease}
use Rattle.callers.proofs.handles.Handles.fail_derivation.Goals as goal

pub returns-clause-changed : goal.returns-clause-changed
returns-clause-changed c = λ operations w are derives.
    let at = c.index_mut.ensures.value ∙ ap (λ i. get_or c.args.self.now.list.items i c.index_mut.result.now) c.place.ensures.place in
    let inside : c.args.op - 1 < 4 = omega (arith, c.place.ensures.last) in
    let none = c.requires c.index_mut.result.now at in
    subst (λ i. IsChanged c.args.self.now.list.items (set c.args.self.now.list.items i c.fail_derivation.new.self) operations c.args.op InError None) (sym c.place.ensures.place)
    (same_lease c.args.self.now.list.items operations c.args.op c.index_mut.result.now c.fail_derivation.new.self InError None are inside at c.fail_derivation.ensures.lease refl
    (c.fail_derivation.ensures.state (operation_at operations c.args.op) w (are.each (c.args.op - 1) c.index_mut.result.now inside at) derives) (λ over. c.fail_derivation.ensures.lease ∙ none))
