use Rattle.slot_table.proofs.{Common.Head, Common.Slot, Common.ap, Common.arith, Common.below_more, Common.empty_head, Common.get_or_read, Common.is_empty_state, Common.length, Common.sym, Common.◌<◌, Common.◌∙◌, Views.slot_is, Views.length_is}
use Rattle.slot_table.proofs.rows.SlotRows.find_empty.Goals as goal

pub returns-then-is_empty : goal.returns-then-is_empty
returns-then-is_empty c =
    let heads = c.self.inside.heads in
    let within : c.loop-i.i < length heads.items = omega (arith, heads.ok.0) in record {
      found = (
        omega (arith, heads.ok.0, c.self.invariant.heads_sized, length_is _ _ _ c.self.invariant c.self.view_is),
        ap (λ (s : Slot). is_empty_state s.state) (slot_is _ _ _ c.self.invariant c.self.view_is _)
            ∙ ap (λ (h : Head). is_empty_state h.state) (sym (get_or_read heads.items _ _ within c.index.ensures empty_head))
            ∙ sym c.is_empty.ensures
            ∙ c.if-is_empty.true,
      );
      before = λ k lt. ap (λ (s : Slot). is_empty_state s.state) (slot_is _ _ _ c.self.invariant c.self.view_is k) ∙ c.loop-i.invariant k lt;
    }

pub loop-i-preserved : goal.loop-i-preserved
loop-i-preserved c =
    let heads = c.self.inside.heads in
    let within : c.loop-i.i < length heads.items = omega (arith, heads.ok.0) in
    below_more _ _ c.loop-i.invariant
    (ap (λ (h : Head). is_empty_state h.state) (sym (get_or_read heads.items _ _ within c.index.ensures empty_head)) ∙ sym c.is_empty.ensures ∙ c.if-is_empty.false)

pub returns-clause-found : goal.returns-clause-found
returns-clause-found c =
    let heads = c.self.inside.heads in
    λ i within. ap (λ (s : Slot). is_empty_state s.state) (slot_is _ _ _ c.self.invariant c.self.view_is _)
    ∙ c.loop-i.invariant i (omega (arith, heads.ok.0, c.self.invariant.heads_sized, length_is _ _ _ c.self.invariant c.self.view_is))
