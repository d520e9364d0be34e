use Rattle.callers.proofs.{Common.IsChanged, Common.None, Common.ap, Common.arith, Common.false, Common.get_or, Common.operation_at, Common.refl, Common.set, Common.stated_bytes, Common.subst, Common.sym, Common.true, Common.without_bytes, Common.◌-◌, Common.◌<◌, Common.◌∙◌, Common.◌≡◌, Changing.same_lease}
use Rattle.callers.proofs.handles.Handles.output_key.Goals as goal

pub output_key-requires : goal.output_key-requires
output_key-requires c =
    let at = c.index_mut.ensures.value ∙ ap (λ i. get_or c.args.self.now.list.items i c.index_mut.result.now) c.place.ensures.place in let are = c.requires.some.1 in record {
      some = (operation_at c.requires.some.0 c.args.op, are.each (c.args.op - 1) c.index_mut.result.now (omega (arith, c.place.ensures.last)) at);
      due = λ operation is. c.requires.due c.index_mut.result.now operation at is;
    }

pub returns-clause-taken : goal.returns-clause-taken
returns-clause-taken c = λ operations w are derives.
    let cells = c.args.self.now.list.items in let op = c.args.op in let cell = c.index_mut.result.now in let next = c.output_key.new.self in let left = without_bytes (operation_at operations op) w (stated_bytes c.args.attributes.now) in
    let at = c.index_mut.ensures.value ∙ ap (λ i. get_or cells i cell) c.place.ensures.place in let inside : op - 1 < 4 = omega (arith, c.place.ensures.last) in
    let state = c.output_key.ensures.state (operation_at operations op) w (are.each (op - 1) cell inside at) derives in (
      subst (λ i. IsChanged cells (set cells i next) operations op left None) (sym c.place.ensures.place)
          (same_lease cells operations op cell next left None are inside at c.output_key.ensures.lease refl state.0 (λ over. let clash : true ≡ false = over in cc)),
      state.1,
    )
