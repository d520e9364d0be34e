use Rattle.key_slots.proofs.{Common.sym, Common.◌∙◌, Agreeing.lives}
use Rattle.key_slots.proofs.slots.KeySlots.is_alive.Goals as goal

pub returns : goal.returns
returns c = λ store all a out.
    let both = lives c.args.self.now.table store all c.args.lease.now.slot c.args.lease.now.creation c.args.self.now.lawful a out in
    (λ is. both.0 (sym c.is_alive.ensures ∙ is), λ has. c.is_alive.ensures ∙ both.1 has)
