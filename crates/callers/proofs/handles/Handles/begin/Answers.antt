use Rattle.callers.proofs.{Common.IsChanged, Common.None, Common.ap, Common.arith, Common.get_or, Common.operation_at, Common.refl, Common.set, Common.set_up_without_key, Common.subst, Common.sym, Common.◌-◌, Common.◌<◌, Common.◌∙◌, Changing.same_lease}
use Rattle.callers.proofs.handles.Handles.begin.Goals as goal

pub begin-requires : goal.begin-requires
begin-requires c =
    let at = c.index_mut.ensures.value ∙ ap (λ i. get_or c.args.self.now.list.items i c.index_mut.result.now) c.place.ensures.place in record {
      free = λ operation is. c.requires.free c.index_mut.result.now operation at is;
      none = c.requires.none c.index_mut.result.now at;
    }

pub returns : goal.returns
returns c =
    let cells = c.args.self.now.list.items in let op = c.args.op in let cell = c.index_mut.result.now in let next = c.begin.new.self in
    let at = c.index_mut.ensures.value ∙ ap (λ i. get_or cells i cell) c.place.ensures.place in let inside : op - 1 < 4 = omega (arith, c.place.ensures.last) in record {
      changed = λ operations are.
          let after = set_up_without_key (operation_at operations op) c.args.setup in
          subst (λ i. IsChanged cells (set cells i next) operations op after.operation None) (sym c.place.ensures.place)
          (same_lease cells operations op cell next after.operation None are inside at c.begin.ensures.lease refl (c.begin.ensures.state (operation_at operations op) (are.each (op - 1) cell inside at)) (λ over. c.begin.ensures.lease ∙ c.requires.none cell at));
      reply = λ operations are. c.begin.ensures.reply (operation_at operations op) (are.each (op - 1) cell inside at);
      first = c.place.ensures.first;
      last = c.place.ensures.last;
    }
