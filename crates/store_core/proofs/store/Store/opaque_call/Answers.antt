use Rattle.store_core.proofs.Common.{algorithm_asked, ap, counted, Err, FaultCounts, first_row, fits_type, has_element, HoldsHandle, is_opaque_key, IsElementAnswered, IsTrue, key_rows, last_counts, length, mark_computed, model_call, Plain, refl, Refused, Rose, Some, subst, sym, unless-err, unless-ok, ◌∙◌, ◌≡◌}
use Rattle.store_core.proofs.{ByElement.answered, ByElement.checked_rows, ByElement.ends_computed, ByElement.fault_of, ByElement.has_slot, ByElement.held_of, ByElement.holds_type, ByElement.keeps_keys, ByElement.mark_may, ByElement.type_fits, ByElement.unused, Destroyed.element_there}
use Rattle.store_core.proofs.store.Store.opaque_call.Goals as goal

pub unreachable-requires : goal.unreachable-requires
unreachable-requires g c =
    let at = c.requires.stands in
    let s = at.4 in
    c.in_default.ensures.none s.holds.model at.3 s.holds.slots (has_slot s.holds.model c.args.id.0 s.holds.sound (c.requires.opaque at.0 at.1 at.2 at.3 s))

pub compute-requires-clause-element : goal.compute-requires-clause-element
compute-requires-clause-element g c κs within =
    let at = c.requires.stands in
    let s = at.4 in
    let k = c.in-Some.ensures.key s.holds.model at.3 s.holds.slots in
    ap has_element (sym s.holds.locations_are) ∙ element_there s.holds.model c.args.id.0 k.0 k.1 s.holds.sound (sym (ap is_opaque_key k.1) ∙ c.requires.opaque at.0 at.1 at.2 at.3 s)

pub compute-requires-clause-fits : goal.compute-requires-clause-fits
compute-requires-clause-fits g c κs within =
    let held = g.A.Devices.keys c.args.self.now.devices in
    let at = c.requires.stands in
    let s = at.4 in
    let k = c.in-Some.ensures.key s.holds.model at.3 s.holds.slots in
    let rows = checked_rows c.args.call.now k.0 c.class.result c.usage.result.0 c.algorithm.result.0 c.check_use.result c.class.ensures c.usage.ensures c.algorithm.ensures
    (c.check_use.ensures.refusal k.0 (sym k.2.attributes ∙ sym c.attributes-attributes.ensures)) in
    subst (λ n. HoldsHandle held n (λ key. IsTrue (fits_type (algorithm_asked c.args.call.now) key.key_type))) (sym (c.number.ensures ∙ k.2.number))
    (holds_type held k.0.number (held_of k.0) _ (s.holds.device.there c.args.id.0 k.0 k.1 (sym (ap is_opaque_key k.1) ∙ c.requires.opaque at.0 at.1 at.2 at.3 s)) (type_fits c.args.call.now k.0 ((unless-ok (first_row (key_rows c.args.call.now (Some k.0))) tt c.in-Ok.field-0 (sym rows ∙ c.in-Ok.is)).0)))

pub returns-in-Ok-clause-made : goal.returns-in-Ok-clause-made
returns-in-Ok-clause-made g c = λ start opening h all e s is turn.
    let old = c.args.self.now in
    let held = g.A.Devices.keys old.devices in
    let m = s.holds.model in
    let call = c.args.call.now in
    let id = c.args.id.0 in
    let k = c.in-Some.ensures.key m all s.holds.slots in
    let opaque = c.requires.opaque start opening h all s in
    let rows = checked_rows call k.0 c.class.result c.usage.result.0 c.algorithm.result.0 c.check_use.result c.class.ensures c.usage.ensures c.algorithm.ensures
    (c.check_use.ensures.refusal k.0 (sym k.2.attributes ∙ sym c.attributes-attributes.ensures)) in
    let none = (unless-ok (first_row (key_rows call (Some k.0))) tt c.in-Ok.field-0 (sym rows ∙ c.in-Ok.is)).0 in
    let there = subst (λ n. HoldsHandle held n (λ h. h ≡ held_of k.0)) (sym (c.number.ensures ∙ k.2.number)) (s.holds.device.there id k.0 k.1 (sym (ap is_opaque_key k.1) ∙ opaque)) in
    let decided = answered held id call c.args.out.now c.compute.new.out c.compute.result m k.0 c.number.result opaque k.1 there none c.compute.ensures.computed in
    ends_computed g.D.Disk g.A.Devices g.C.Admission g.met.D.Disk.only_now old c.compute.new.devices start opening h all e
    (model_call call id (length c.args.out.now)) (mark_computed c.compute.result) (IsElementAnswered held id call c.args.out.now c.compute.new.out c.compute.result) s is (keeps_keys call id (length c.args.out.now))
    c.compute.ensures.keys c.compute.ensures.locations
    (fault_of c.compute.result _ (last_counts opening.counts h) e (λ failed.
    subst (Rose (last_counts opening.counts h).device_faults) (sym turn.device_faults) (subst (λ n. Rose n (g.A.Devices.faults c.compute.new.devices)) (sym (ap (λ (x : FaultCounts). x.device_faults) s.counts)) (c.compute.ensures.failed failed))))
    (λ service same. mark_may held id call c.args.out.now c.compute.new.out c.compute.result m decided opaque service e.caller same) (answered held id call c.args.out.now c.compute.new.out c.compute.result (counted m) k.0 c.number.result opaque k.1 there none c.compute.ensures.computed) turn

pub returns-in-Err-clause-made : goal.returns-in-Err-clause-made
returns-in-Err-clause-made g c = λ start opening h all e s is turn.
    let old = c.args.self.now in
    let held = g.A.Devices.keys old.devices in
    let m = s.holds.model in
    let call = c.args.call.now in
    let id = c.args.id.0 in
    let out = c.args.out.now in
    let k = c.in-Some.ensures.key m all s.holds.slots in
    let rows = checked_rows call k.0 c.class.result c.usage.result.0 c.algorithm.result.0 c.check_use.result c.class.ensures c.usage.ensures c.algorithm.ensures
    (c.check_use.ensures.refusal k.0 (sym k.2.attributes ∙ sym c.attributes-attributes.ensures)) in
    ends_computed g.D.Disk g.A.Devices g.C.Admission g.met.D.Disk.only_now old old.devices start opening h all e
    (model_call call id (length out)) Plain (IsElementAnswered held id call out out (Err (Refused c.in-Err.status))) s is (keeps_keys call id (length out)) refl refl tt (λ service same. tt)
    (unused held id call out (counted m) k.0 c.in-Err.status (c.requires.opaque start opening h all s) k.1 (unless-err (first_row (key_rows call (Some k.0))) tt c.in-Err.status (sym rows ∙ c.in-Err.is))) turn
