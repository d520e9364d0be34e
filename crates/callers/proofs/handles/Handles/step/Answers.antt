use Rattle.callers.proofs.{Common.IsChanged, Common.ap, Common.arith, Common.get_or, Common.length, Common.model_step, Common.next_bytes, Common.operation_at, Common.set, Common.stepped_by, Common.subst, Common.sym, Common.◌-◌, Common.◌<◌, Common.◌∙◌, Changing.stepped}
use Rattle.callers.proofs.handles.Handles.step.Goals as goal

pub returns : goal.returns
returns c =
    let cells = c.args.self.now.list.items in let op = c.args.op in let cell = c.index_mut-cell.result.now in let next = c.settle.new.self in let done = c.step-result.ensures in
    let at = c.index_mut-cell.ensures.value ∙ ap (λ i. get_or cells i cell) c.place.ensures.place in let inside : op - 1 < 4 = omega (arith, c.place.ensures.last) in record {
      changed = λ operations are.
          let after = stepped_by c.args.alive (next_bytes c.args.stream.now 16) (operation_at operations op) (model_step c.args.step (length c.args.out.now)) in let stood = done.state (operation_at operations op) (are.each (op - 1) cell inside at) in
          subst (λ i. IsChanged cells (set cells i next) operations op after.operation c.settle.result) (sym c.place.ensures.place)
          (stepped cells operations op cell next after.operation c.settle.result are inside at c.step-result.new.self done.lease (c.settle.ensures.state after.operation stood) (c.settle.ensures.active after.operation stood) (c.settle.ensures.over after.operation stood));
      reply = λ operations are. done.reply (operation_at operations op) (are.each (op - 1) cell inside at);
      buffer = λ operations are. done.buffer (operation_at operations op) (are.each (op - 1) cell inside at);
      stream = λ operations are. done.stream (operation_at operations op) (are.each (op - 1) cell inside at);
      few = done.few;
      first = c.place.ensures.first;
      last = c.place.ensures.last;
    }
