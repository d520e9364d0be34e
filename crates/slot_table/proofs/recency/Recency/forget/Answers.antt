use Rattle.slot_table.proofs.{Common.AreLinksOf, Common.arith, Common.length, Common.recency_without, Common.◌≤◌, Linked.links_without, Linked.own_row, Linked.row_is, Linked.slot_within, Times.length-without}
use Rattle.slot_table.proofs.recency.Recency.forget.Goals as goal

pub bounds-deref-slot : goal.bounds-deref-slot
bounds-deref-slot c = let within = slot_within _ _ c.args.slot c.self.invariant (rw c.self.view_is c.requires) in omega (arith, within)

pub bounds-deref-slot-2 : goal.bounds-deref-slot-2
bounds-deref-slot-2 c = let within = slot_within _ _ c.args.slot c.self.invariant (rw c.self.view_is c.requires) in omega (arith, within)

pub join-requires-clause-older : goal.join-requires-clause-older
join-requires-clause-older c = rw c.deref.ensures (c.self.invariant.older_within c.args.slot)

pub join-requires-clause-newer : goal.join-requires-clause-newer
join-requires-clause-newer c = rw c.deref.ensures (c.self.invariant.newer_within c.args.slot)

links_after : (c : goal.After-self-1) → AreLinksOf (recency_without c.args.slot c.args.self.now) c.join.new.links
links_after c =
    rw (c.join.ensures, c.deref_mut.ensures.value, c.deref.ensures, ← c.self.view_is) (links_without _ _ c.args.slot c.self.invariant (rw c.self.view_is c.requires))

pub invariant_of-self : goal.invariant_of-self
invariant_of-self c = own_row _ _ (links_after c)

pub returns : goal.returns
returns c =
    let row = row_is _ _ (links_after c) in
    let short : length c.args.self.now ≤ 384 = rw c.self.view_is at c.self.invariant.short in
    record {
      row = row;
      room = rw row (omega (arith, c.requires, short, length-without c.args.slot c.args.self.now));
      within = slot_within _ _ c.args.slot c.self.invariant (rw c.self.view_is c.requires);
    }
