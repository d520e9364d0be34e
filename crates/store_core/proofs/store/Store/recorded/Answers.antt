use Rattle.store_core.proofs.{Common.ap, Common.has_element, Common.None, Common.Some, Common.sym, Common.◌∙◌, Asked.asks, Asked.by_room, Asked.unchecked, Asked.unruled}
use Rattle.store_core.proofs.store.Store.recorded.Goals as goal

pub returns-in-Ok-check_room-clause-value : goal.returns-in-Ok-check_room-clause-value
returns-in-Ok-check_room-clause-value g c = λ start opening h all e s.
    let element = c.has_secure_element-element.result in
    let labels = g.C.Admission.labels c.args.self.now.rules in
    sym (asks s.model c.args.caller c.args.attributes.now c.args.bytes element labels (ap has_element s.locations_are ∙ sym c.has_secure_element-element.ensures) s.labels_are
    ∙ by_room s.model c.args.caller c.args.attributes.now c.args.bytes element labels c.in-Ok.filled (sym c.in-Ok.ensures.value) c.in-Ok-apply.kept None (sym c.in-Ok-apply.ensures) (c.in-Ok-check_room.ensures.free start opening h all e s))

pub returns-in-Err-check_room-clause-value : goal.returns-in-Err-check_room-clause-value
returns-in-Err-check_room-clause-value g c = λ start opening h all e s.
    let element = c.has_secure_element-element.result in
    let labels = g.C.Admission.labels c.args.self.now.rules in
    sym (asks s.model c.args.caller c.args.attributes.now c.args.bytes element labels (ap has_element s.locations_are ∙ sym c.has_secure_element-element.ensures) s.labels_are
    ∙ by_room s.model c.args.caller c.args.attributes.now c.args.bytes element labels c.in-Ok.filled (sym c.in-Ok.ensures.value) c.in-Ok-apply.kept (Some c.in-Err-check_room.status) (sym c.in-Ok-apply.ensures) (c.in-Err-check_room.ensures.refused start opening h all e s))

pub returns-in-Err-clause-value : goal.returns-in-Err-clause-value
returns-in-Err-clause-value g c = λ start opening h all e s.
    let element = c.has_secure_element-element.result in
    let labels = g.C.Admission.labels c.args.self.now.rules in
    sym (asks s.model c.args.caller c.args.attributes.now c.args.bytes element labels (ap has_element s.locations_are ∙ sym c.has_secure_element-element.ensures) s.labels_are
    ∙ unchecked s.model c.args.caller c.args.attributes.now c.args.bytes element labels c.in-Err.status (sym c.in-Err.ensures.value))

pub returns-in-Err-apply-clause-value : goal.returns-in-Err-apply-clause-value
returns-in-Err-apply-clause-value g c = λ start opening h all e s.
    let element = c.has_secure_element-element.result in
    let labels = g.C.Admission.labels c.args.self.now.rules in
    sym (asks s.model c.args.caller c.args.attributes.now c.args.bytes element labels (ap has_element s.locations_are ∙ sym c.has_secure_element-element.ensures) s.labels_are
    ∙ unruled s.model c.args.caller c.args.attributes.now c.args.bytes element labels c.in-Ok.filled (sym c.in-Ok.ensures.value) c.in-Err-apply.status (sym c.in-Err-apply.ensures))
