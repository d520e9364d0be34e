use Rattle.slot_table.proofs.{Common.AreLinksOf, Common.[], Common.◌++◌, Common.◌∷◌, Linked.links_with, Linked.own_row, Linked.row_is}
use Rattle.slot_table.proofs.recency.Recency.push.Goals as goal

links_after : (c : goal.After-self-2-1) → AreLinksOf (c.args.self.now ++ c.args.slot ∷ []) c.join-2.new.links
links_after c =
    rw (c.join-2.ensures, c.deref_mut-2.ensures.value, c.join.ensures, c.deref_mut.ensures.value, c.deref.ensures, ← c.self.view_is)
    (links_with _ _ c.args.slot c.self.invariant c.requires.within (rw c.self.view_is c.requires.room) (rw c.self.view_is c.requires.new))

pub invariant_of-self : goal.invariant_of-self
invariant_of-self c = own_row _ _ (links_after c)

pub returns : goal.returns
returns c = row_is _ _ (links_after c)
