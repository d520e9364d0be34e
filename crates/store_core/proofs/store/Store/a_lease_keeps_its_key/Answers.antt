use Rattle.store_core.proofs.Common.{is_read, sym}
use Rattle.store_core.proofs.store.Store.a_lease_keeps_its_key.Goals as goal

pub returns : goal.returns
returns g c = λ start opening h all s i number out. sym (is_read c.args.self.now.slots.table.slots s.holds.model all i number s.holds.slots out).1
