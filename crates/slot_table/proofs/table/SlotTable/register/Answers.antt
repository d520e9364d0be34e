use Rattle.slot_table.proofs.{Common.Full, Common.Table, Common.[], Common.ap, Common.arith, Common.cond, Common.is_full, Common.length-append, Common.recency_without, Common.refl, Common.slot_at, Common.times, Common.◌∙◌, Common.◌∷◌, Common.◌≡◌, Times.length-without, AtSlots.full_within, Indexed.index_stays, Laws.becomes_last, Laws.lawful_full}
use Rattle.slot_table.proofs.table.SlotTable.register.Goals as goal

pub invariant_of-self : goal.invariant_of-self
invariant_of-self c =
    let full : (slot_at c.self.inside.rows c.args.slot).state ≡ Full = rw (ap (λ (t : Table). t.slots) c.self.view_is) c.requires.full in
    let once : times c.args.slot c.self.inside.recency ≡ 1 = c.self.invariant.law.recent c.args.slot ∙ ap (λ x. cond (is_full x) 1 0) full in
    rw (c.register.ensures, c.refresh.ensures)
    (record {
      law = becomes_last _ _ _ c.self.invariant.law (full_within _ _ full) full full refl (lawful_full _ _ (c.self.invariant.law.each c.args.slot) refl full);
      index = index_stays _ _ _ c.self.inside.index.value (full_within _ _ full) (λ id. refl) c.self.invariant.index;
      sized = omega (arith, c.self.invariant.sized, once, length-without c.args.slot c.self.inside.recency, length-append (recency_without c.args.slot c.self.inside.recency) (c.args.slot ∷ []));
    })

pub returns-clause-lawful : goal.returns-clause-lawful
returns-clause-lawful c = (invariant_of-self c).law
