use Rattle.store_core.proofs.Common.{readers_out, sym}
use Rattle.store_core.proofs.store.Store.readers_are_leases.Goals as goal

pub returns : goal.returns
returns g c = λ start opening h all s i lt. sym (readers_out c.args.self.now.slots.table.slots s.holds.model all i lt s.holds.slots)
