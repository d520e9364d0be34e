use Rattle.callers.proofs.{Common.IsChanged, Common.ap, Common.arith, Common.derived_key_refused, Common.get_or, Common.operation_at, Common.set, Common.subst, Common.sym, Common.◌-◌, Common.◌<◌, Common.◌∙◌, Changing.stepped}
use Rattle.callers.proofs.handles.Handles.refuse_output_key.Goals as goal

pub refuse_output_key-status-requires : goal.refuse_output_key-status-requires
refuse_output_key-status-requires c =
    let at = c.index_mut-cell.ensures.value ∙ ap (λ i. get_or c.args.self.now.list.items i c.index_mut-cell.result.now) c.place.ensures.place in let are = c.requires.some.1 in record {
      some = (operation_at c.requires.some.0 c.args.op, are.each (c.args.op - 1) c.index_mut-cell.result.now (omega (arith, c.place.ensures.last)) at);
      refused = λ operation is. c.requires.refused c.index_mut-cell.result.now operation at is;
    }

pub returns : goal.returns
returns c =
    let cells = c.args.self.now.list.items in let op = c.args.op in let cell = c.index_mut-cell.result.now in let next = c.settle.new.self in let done = c.refuse_output_key-status.ensures in
    let at = c.index_mut-cell.ensures.value ∙ ap (λ i. get_or cells i cell) c.place.ensures.place in let inside : op - 1 < 4 = omega (arith, c.place.ensures.last) in record {
      changed = λ operations are.
          let after = derived_key_refused c.args.alive (operation_at operations op) c.args.attributes.now in let stood = done.state (operation_at operations op) (are.each (op - 1) cell inside at) in
          subst (λ i. IsChanged cells (set cells i next) operations op after.operation c.settle.result) (sym c.place.ensures.place)
          (stepped cells operations op cell next after.operation c.settle.result are inside at c.refuse_output_key-status.new.self done.lease (c.settle.ensures.state after.operation stood) (c.settle.ensures.active after.operation stood) (c.settle.ensures.over after.operation stood));
      reply = λ operations are. done.reply (operation_at operations op) (are.each (op - 1) cell inside at);
      first = c.place.ensures.first;
      last = c.place.ensures.last;
    }
