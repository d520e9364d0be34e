use Rattle.store_core.proofs.{ByElement.not_opaque, Destroyed.low_lasts}
use Rattle.store_core.proofs.store.Store.is_opaque.Goals as goal

pub returns-in-None : goal.returns-in-None
returns-in-None g c = λ start opening h all s. not_opaque s.holds.model c.args.id.0 s.holds.sound (c.in-None.ensures.none s.holds.model all s.holds.slots)

pub returns-then-id-le-LAST_STATED_ID : goal.returns-then-id-le-LAST_STATED_ID
returns-then-id-le-LAST_STATED_ID g c = λ start opening h all s. not_opaque s.holds.model c.args.id.0 s.holds.sound (low_lasts s.holds.model c.args.id.0 s.holds.sound c.if-id-le-LAST_STATED_ID.true)
