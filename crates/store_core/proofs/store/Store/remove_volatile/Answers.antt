use Rattle.store_core.proofs.Common.{ap, arith, asks_device, Hardware, has_element, HoldsHandle, is_opaque, is_opaque_key, map_get, Plain, Rose, slot_at, subst, sym, ℕ, ⊤, ◌||◌, ◌∙◌}
use Rattle.store_core.proofs.{Destroyed.of_creator, Destroyed.fewer_live, Destroyed.element_there, Destroyed.holds_some, Destroyed.rows_there, DestroyTurn.destroys_volatile, DestroyTurn.slot_key, Forgotten.slot_forgotten}
use Rattle.store_core.proofs.store.Store.remove_volatile.Goals as goal

pub forget-forgotten-requires-clause-element : goal.forget-forgotten-requires-clause-element
forget-forgotten-requires-clause-element g c κs within = λ opaque.
    let s = c.requires.stands.4.holds in
    let old = c.args.self.now in
    let k = slot_key old.slots.table.slots s.model c.requires.stands.3 c.args.id.0 c.args.slot s.sound c.requires.high s.slots c.requires.within c.requires.there in
    ap has_element (sym s.locations_are) ∙ element_there s.model c.args.id.0 k.key k.there s.sound (ap is_opaque (sym k.has.attributes) ∙ opaque)

pub forget-forgotten-requires-clause-held : goal.forget-forgotten-requires-clause-held
forget-forgotten-requires-clause-held g c κs within = λ opaque.
    let s = c.requires.stands.4.holds in
    let old = c.args.self.now in
    let held = g.A.Devices.keys old.devices in
    let k = slot_key old.slots.table.slots s.model c.requires.stands.3 c.args.id.0 c.args.slot s.sound c.requires.high s.slots c.requires.within c.requires.there in
    subst (λ (n : ℕ). HoldsHandle held n (λ key. ⊤)) (sym k.has.number) (holds_some held k.key.number _ (s.device.there c.args.id.0 k.key k.there (ap is_opaque (sym k.has.attributes) ∙ opaque)))

pub bounds-self-caller : goal.bounds-self-caller
bounds-self-caller g c =
    let s = c.requires.stands.4.holds in
    let old = c.args.self.now in
    let k = slot_key old.slots.table.slots s.model c.requires.stands.3 c.args.id.0 c.args.slot s.sound c.requires.high s.slots c.requires.within c.requires.there in
    let last = of_creator s.model c.args.id.0 k.key k.there s.sound k.volatile c.caller_of-caller.result c.caller_of-caller.ensures in
    omega arith

pub overflow_sub-self : goal.overflow_sub-self
overflow_sub-self g c =
    let s = c.requires.stands.4.holds in
    let old = c.args.self.now in
    let caller = c.caller_of-caller.result in
    let k = slot_key old.slots.table.slots s.model c.requires.stands.3 c.args.id.0 c.args.slot s.sound c.requires.high s.slots c.requires.within c.requires.there in
    let last = of_creator s.model c.args.id.0 k.key k.there s.sound k.volatile caller c.caller_of-caller.ensures in
    let fewer = fewer_live s.model c.args.id.0 k.key k.there s.sound k.volatile caller c.caller_of-caller.ensures in
    let was = s.live caller last in
    omega arith

pub bounds-self-caller-2 : goal.bounds-self-caller-2
bounds-self-caller-2 g c =
    let s = c.requires.stands.4.holds in
    let old = c.args.self.now in
    let k = slot_key old.slots.table.slots s.model c.requires.stands.3 c.args.id.0 c.args.slot s.sound c.requires.high s.slots c.requires.within c.requires.there in
    let last = of_creator s.model c.args.id.0 k.key k.there s.sound k.volatile c.caller_of-caller.result c.caller_of-caller.ensures in
    omega arith

pub returns-in-Ok-clause-destroyed : goal.returns-in-Ok-clause-destroyed
returns-in-Ok-clause-destroyed g c = λ start opening h all e s call is.
    let old = c.args.self.now in
    let m = s.holds.model in
    let k = slot_key old.slots.table.slots m all c.args.id.0 c.args.slot s.holds.sound c.requires.high s.holds.slots c.requires.within c.requires.there in
    let ensures = c.in-Ok.ensures in (
      destroys_volatile g.D.Disk g.A.Devices g.C.Admission g.met.D.Disk.only_now old start opening h all e c.args.id.0 call c.forget-forgotten.new.devices c.destroy.new.self c.caller_of-caller.result Plain (slot_at old.slots.table.slots c.args.slot) s k c.destroy.ensures.forgets c.caller_of-caller.ensures
          ensures.locations ensures.keys tt (λ service same. tt) is,
      rows_there c.args.id.0 (map_get m.keys c.args.id.0) k.key k.there,
    )

pub returns-in-Err-clause-failed : goal.returns-in-Err-clause-failed
returns-in-Err-clause-failed g c = λ start opening h all e s call is.
    let old = c.args.self.now in
    let k = slot_key old.slots.table.slots s.holds.model all c.args.id.0 c.args.slot s.holds.sound c.requires.high s.holds.slots c.requires.within c.requires.there in
    let ensures = c.in-Err.ensures in
    let opaque = ap is_opaque_key k.there ∙ (ap is_opaque (sym k.has.attributes) ∙ ensures.opaque) in (
      destroys_volatile g.D.Disk g.A.Devices g.C.Admission g.met.D.Disk.only_now old start opening h all e c.args.id.0 call c.forget-forgotten.new.devices c.destroy.new.self c.caller_of-caller.result Hardware (slot_at old.slots.table.slots c.args.slot) s k c.destroy.ensures.forgets c.caller_of-caller.ensures
          ensures.locations ensures.keys (subst (Rose (g.A.Devices.faults old.devices)) (sym is.device_faults) ensures.cause.failed)
          (λ service same. ap (λ b. b || asks_device service e.caller e.call) (ap is_opaque_key same ∙ opaque)) is,
      opaque,
    )

pub returns-in-Ok-clause-forgotten : goal.returns-in-Ok-clause-forgotten
returns-in-Ok-clause-forgotten g c = λ i lt has.
    let old = c.args.self.now in
    slot_forgotten old.slots.table c.args.id.0 c.args.slot i (g.A.Devices.keys old.devices) (g.A.Devices.keys c.forget-forgotten.new.devices) old.slots.lawful c.requires.there has c.in-Ok.ensures.forgotten
