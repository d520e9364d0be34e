use Rattle.store_core.proofs.{Common.always_found, Holding.unranked}
use Rattle.store_core.proofs.store.Store.reserve.Goals as goal

pub reserve-requires : goal.reserve-requires
reserve-requires g c =
    let slots = c.args.self.now.slots in
    let s = c.requires.stands.4.holds in
    always_found slots.table s.model c.requires.stands.3 slots.lawful s.slots s.holdings s.sound

pub returns-clause-gives : goal.returns-clause-gives
returns-clause-gives g c = λ start opening h all more s gains law.
    unranked g.D.Disk g.A.Devices g.C.Admission c.args.self.now start opening h c.reserve.new.self all more
    s (c.reserve.ensures.gives s.holds.model all more s.holds.slots gains) law
