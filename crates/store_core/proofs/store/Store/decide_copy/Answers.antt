use Rattle.store_core.proofs.{Common.ap, Common.Attributes, Common.recorded_of, Common.sym, Common.◌/◌, Common.◌∙◌, Copied.bytes_by_bits}
use Rattle.store_core.proofs.store.Store.decide_copy.Goals as goal

pub returns-in-Ok : goal.returns-in-Ok
returns-in-Ok g c = record {
  value = λ start opening h all e s id key there has.
      let same = sym has.attributes ∙ sym c.attributes-source.ensures in
      let bits = bytes_by_bits s.model id key (s.sound.keys id key there) ∙ ap (λ (a : Attributes). a.bits / 8) same in
      c.recorded.ensures.value start opening h all e s
      ∙ (ap (recorded_of s.model c.args.caller c.in-Ok.copy) (sym bits) ∙ sym (c.in-Ok.ensures s.model c.args.caller key same));
}

pub returns-in-Err : goal.returns-in-Err
returns-in-Err g c = record {
  value = λ start opening h all e s id key there has.
      sym (c.in-Err.ensures s.model c.args.caller key (sym has.attributes ∙ sym c.attributes-source.ensures));
}
