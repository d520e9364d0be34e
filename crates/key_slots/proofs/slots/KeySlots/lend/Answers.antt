use Rattle.key_slots.proofs.{Common.ap, Common.full_within, Common.inl, Common.refl, Agreeing.registers, Wiping.ends_one}
use Rattle.slot_table.specs.Lent.{Reading}
use Rattle.key_slots.proofs.slots.KeySlots.lend.Goals as goal

pub returns-clause-gives : goal.returns-clause-gives
returns-clause-gives c = λ store all more a gains.
    let creation = ap (λ (l : Reading). l.creation) c.register.ensures.lease in
    rw c.register.ensures.slots (registers c.args.self.now.table store all more c.args.slot c.args.self.now.lawful c.requires.full (rw creation at gains) a)

pub returns-clause-wipes : goal.returns-clause-wipes
returns-clause-wipes c =
    let slots = c.args.self.now.table.slots in
    rw c.register.ensures.slots (ends_one slots c.args.slot _ (λ k s. ⊥) (inl (record { state = refl; creation = refl; attributes = refl; buffer = refl })) (full_within slots c.args.slot c.requires.full))
