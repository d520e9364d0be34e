use Rattle.store_core.proofs.Holding.{unranked}
use Rattle.store_core.proofs.store.Store.leave.Goals as goal

pub take_back-requires : goal.take_back-requires
take_back-requires g c = let s = c.requires.out.4.holds in record { store = s.model; all = c.requires.out.3; agrees = s.slots; out = c.requires.out.5 }

pub returns-clause-takes : goal.returns-clause-takes
returns-clause-takes g c = λ start opening h all less s gains law.
    unranked g.D.Disk g.A.Devices g.C.Admission c.args.self.now start opening h c.take_back.new.self all less
    s (c.take_back.ensures.takes s.holds.model all less s.holds.slots gains) law
