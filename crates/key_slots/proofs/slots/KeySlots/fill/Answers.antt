use Rattle.key_slots.proofs.{Common.filling_within, Common.inr, Common.IsFillingOf, Common.refl, Agreeing.fills, Agreeing.is_waiting, Wiping.ends_one}
use Rattle.key_slots.proofs.slots.KeySlots.fill.Goals as goal

pub returns-clause-takes : goal.returns-clause-takes
returns-clause-takes c = λ old new all less key a gains puts has known.
    rw c.finish.ensures.slots (fills c.args.self.now.table old new all less key c.args.filling.slot c.args.number c.args.attributes.now c.args.bytes.now c.args.self.now.lawful c.requires.unknown gains puts has known a)

pub returns-clause-wipes : goal.returns-clause-wipes
returns-clause-wipes c =
    let slots = c.args.self.now.table.slots in
    let out = c.requires.out in
    let waiting = (is_waiting slots out.store out.all c.args.filling.slot out.agrees out.out).1 in
    rw c.finish.ensures.slots (ends_one slots c.args.filling.slot _ (IsFillingOf c.args.filling.slot) (inr (refl, waiting)) (filling_within slots c.args.filling.slot waiting))
