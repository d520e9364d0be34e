use Rattle.store_core.proofs.Changing.{counts_on}
use Rattle.store_core.proofs.store.Store.count.Goals as goal

pub returns-clause-adds : goal.returns-clause-adds
returns-clause-adds g c = λ start opening h all e s still is.
    (counts_on g.D.Disk g.A.Devices g.C.Admission g.met.D.Disk.only_now e s c.args.self.now.slots s.holds.slots still is).0
