use Rattle.key_slots.proofs.Agreeing.{purges}
use Rattle.key_slots.proofs.slots.KeySlots.purge.Goals as goal

pub returns : goal.returns
returns c =
    let e = c.purge.ensures in
    let made = purges c.args.self.now.table c.purge.new.self c.purge.result c.args.id.0 c.args.slot c.args.self.now.lawful c.requires e.result e.slots e.other in
    record { stays = made.stays; wiped = made.wiped; others = made.others; wipes = made.wipes; emptied = made.emptied }
