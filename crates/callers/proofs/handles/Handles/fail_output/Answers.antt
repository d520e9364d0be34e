use Rattle.callers.proofs.{Common.InError, Common.IsChanged, Common.ap, Common.arith, Common.get_or, Common.operation_at, Common.set, Common.subst, Common.sym, Common.◌-◌, Common.◌<◌, Common.◌∙◌, Changing.stepped}
use Rattle.callers.proofs.handles.Handles.fail_output.Goals as goal

pub returns : goal.returns
returns c = λ operations w are derives.
    let at = c.index_mut-cell.ensures.value ∙ ap (λ i. get_or c.args.self.now.list.items i c.index_mut-cell.result.now) c.place.ensures.place in
    let inside : c.args.op - 1 < 4 = omega (arith, c.place.ensures.last) in
    let stood = c.fail_derivation.ensures.state (operation_at operations c.args.op) w (are.each (c.args.op - 1) c.index_mut-cell.result.now inside at) derives in
    subst (λ i. IsChanged c.args.self.now.list.items (set c.args.self.now.list.items i c.settle.new.self) operations c.args.op InError c.settle.result) (sym c.place.ensures.place)
    (stepped c.args.self.now.list.items operations c.args.op c.index_mut-cell.result.now c.settle.new.self InError c.settle.result are inside at c.fail_derivation.new.self c.fail_derivation.ensures.lease
    (c.settle.ensures.state InError stood) (c.settle.ensures.active InError stood) (c.settle.ensures.over InError stood))
