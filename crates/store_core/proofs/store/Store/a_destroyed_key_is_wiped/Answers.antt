use Rattle.store_core.proofs.Wiped.{wiped_slot}
use Rattle.store_core.proofs.store.Store.a_destroyed_key_is_wiped.Goals as goal

pub returns : goal.returns
returns g c = λ start opening h all s number gone none i lt is. wiped_slot c.args.self.now.slots.table.slots s.holds.model all i number s.holds.slots (c.args.self.now.slots.lawful.each i) lt gone (none i) is
