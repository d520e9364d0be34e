use Rattle.key_slots.proofs.{Common.empty_slot, Common.filling_within, Common.inr, Common.IsFillingOf, Common.refl, Common.slot_at-set_same, Agreeing.gives_up, Agreeing.is_waiting, Wiping.ends_one}
use Rattle.key_slots.proofs.slots.KeySlots.give_up.Goals as goal

pub returns : goal.returns
returns c =
    let t = c.args.self.now.table in
    let i = c.args.filling.slot in
    let waiting = (is_waiting t.slots c.requires.store c.requires.all i c.requires.agrees c.requires.out).1 in
    let within = filling_within t.slots i waiting in
    record {
      takes = λ store all less a gains. rw c.drop_filling.ensures.slots (gives_up t store all less i c.args.self.now.lawful gains a);
      wipes = rw c.drop_filling.ensures.slots (ends_one t.slots i empty_slot (IsFillingOf i) (inr (refl, waiting)) within);
      emptied = rw c.drop_filling.ensures.slots (slot_at-set_same t.slots i empty_slot within);
    }
