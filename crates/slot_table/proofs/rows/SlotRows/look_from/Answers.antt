use Rattle.slot_table.proofs.{Common.Slot, Common.ap, Common.is_empty_state, Common.sym, Common.◌∙◌, Views.slot_is}
use Rattle.slot_table.proofs.rows.SlotRows.look_from.Goals as goal

pub invariant_of-self : goal.invariant_of-self
invariant_of-self c =
    let rows = c.self.invariant in record {
      heads_sized = rows.heads_sized;
      keys_sized = rows.keys_sized;
      none_before = λ k lt. ap (λ (s : Slot). is_empty_state s.state) (sym (slot_is _ _ _ rows c.self.view_is k)) ∙ c.requires k lt;
    }
