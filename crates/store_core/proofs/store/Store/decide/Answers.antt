use Rattle.store_core.proofs.Common.{inl, IsAmong, Option, option_map, RecordsStated, refl, subst, sym}
use Rattle.store_core.proofs.store.Store.decide.Goals as goal

pub is_alive-requires : goal.is_alive-requires
is_alive-requires g c =
    let own = c.requires.lent in
    let s = own.4.holds in
    record { store = s.model; all = own.3; agrees = s.slots; out = subst (λ (o : Option _). IsAmong (option_map (λ l. l.now) o) own.3) c.in-Some.is own.5 }

pub returns-in_default-clause-value : goal.returns-in_default-clause-value
returns-in_default-clause-value g c = λ start opening h all e s lent.
    subst (λ (o : Option _). RecordsStated (option_map (λ l. l.now) o) c.args.caller c.args.attributes.now c.args.bytes s.model c.recorded.result) (sym c.in_default.is) (c.recorded.ensures.value start opening h all e s)

pub returns-clause-value : goal.returns-clause-value
returns-clause-value g c = λ start opening h all e s lent.
    let out = subst (λ (o : Option _). IsAmong (option_map (λ l. l.now) o) all) c.in-Some.is lent in
    subst (λ (o : Option _). RecordsStated (option_map (λ l. l.now) o) c.args.caller c.args.attributes.now c.args.bytes s.model c.recorded-2.result) (sym c.in-Some.is)
    (inl ((c.if-not-is_alive.ensures s.model all s.slots out).0 refl, c.recorded-2.ensures.value start opening h all e s))
