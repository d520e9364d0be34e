use Rattle.key_slots.proofs.{Common.read_within, Agreeing.is_read, Agreeing.leaves, Wiping.last_empties, Wiping.leave_ends}
use Rattle.key_slots.proofs.slots.KeySlots.take_back.Goals as goal

pub returns : goal.returns
returns c =
    let t = c.args.self.now.table in
    let i = c.args.lease.slot in
    let within = read_within t.slots i (is_read t.slots c.requires.store c.requires.all i c.args.lease.creation c.requires.agrees c.requires.out).2 in
    record {
      clear = c.leave.ensures.clear;
      takes = λ store all less a gains. rw c.leave.ensures.slots (leaves t store all less i c.args.lease.creation c.args.self.now.lawful gains a);
      wipes = rw c.leave.ensures.slots (leave_ends t.slots i within);
      emptied = λ last. rw c.leave.ensures.slots (last_empties t.slots i within last);
    }
