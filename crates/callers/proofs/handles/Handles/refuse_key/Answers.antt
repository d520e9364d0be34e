use Rattle.callers.proofs.{Common.IsChanged, Common.ap, Common.arith, Common.get_or, Common.key_refused, Common.operation_at, Common.set, Common.subst, Common.sym, Common.◌-◌, Common.◌<◌, Common.◌∙◌, Changing.stepped}
use Rattle.callers.proofs.handles.Handles.refuse_key.Goals as goal

pub refuse_key-result-requires : goal.refuse_key-result-requires
refuse_key-result-requires c = λ operation is. c.requires c.index_mut-cell.result.now operation (c.index_mut-cell.ensures.value ∙ ap (λ i. get_or c.args.self.now.list.items i c.index_mut-cell.result.now) c.place.ensures.place) is

pub returns : goal.returns
returns c =
    let cells = c.args.self.now.list.items in let op = c.args.op in let cell = c.index_mut-cell.result.now in let next = c.settle.new.self in let done = c.refuse_key-result.ensures in
    let at = c.index_mut-cell.ensures.value ∙ ap (λ i. get_or cells i cell) c.place.ensures.place in let inside : op - 1 < 4 = omega (arith, c.place.ensures.last) in record {
      changed = λ operations are.
          let after = key_refused c.args.alive (operation_at operations op) c.args.step in let stood = done.state (operation_at operations op) (are.each (op - 1) cell inside at) in
          subst (λ i. IsChanged cells (set cells i next) operations op after.operation c.settle.result) (sym c.place.ensures.place)
          (stepped cells operations op cell next after.operation c.settle.result are inside at c.refuse_key-result.new.self done.lease (c.settle.ensures.state after.operation stood) (c.settle.ensures.active after.operation stood) (c.settle.ensures.over after.operation stood));
      reply = λ operations are. done.reply (operation_at operations op) (are.each (op - 1) cell inside at);
      first = c.place.ensures.first;
      last = c.place.ensures.last;
    }
