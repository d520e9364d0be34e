use Rattle.locked_store.proofs.Common.{DecidesAfter, HasOpaque, IsClear, IsElementAnswered, ap, is_some, length, mark_computed, model_request, subst, sym, world, ◌∙◌}
use Rattle.secure_element_calls.specs.Calls.{model_call}
use Rattle.locked_store.proofs.{Computing.as_known, Turns.IsSteady, Turns.IsTurned, Turns.entered_after, Turns.few, Turns.in_turn, Turns.led_weaker, Turns.makes, Turns.stands_some, Turns.turned_after, held.SharedStore.compute_in.Goals.After-of}
use Rattle.locked_store.proofs.held.SharedStore.compute_in.Goals as goal

pub opaque_call-computed-requires-clause-stands : goal.opaque_call-computed-requires-clause-stands
opaque_call-computed-requires-clause-stands g c κs within = stands_some (in_turn c.requires.begun c.requires.stands c.requires.opened (ap (λ v. v.store) c.value.ensures.value))

pub opaque_call-computed-requires-clause-few : goal.opaque_call-computed-requires-clause-few
opaque_call-computed-requires-clause-few g c κs within = few (in_turn c.requires.begun c.requires.stands c.requires.opened (ap (λ v. v.store) c.value.ensures.value))

pub opaque_call-computed-requires-clause-opaque : goal.opaque_call-computed-requires-clause-opaque
opaque_call-computed-requires-clause-opaque g c κs within =
    subst (λ v. HasOpaque g.D.Disk g.A.Devices g.C.Admission v.store c.args.id.0) (sym c.value.ensures.value) c.requires.opaque

-- the turn, as the store ended it
turned : (g : _) (c : goal.After-of g) → IsTurned (world c.args.self.now) c.args.pass.now c.opaque_call-computed.new.self (model_request c.args.call.now (length c.args.out.now)) (mark_computed c.opaque_call-computed.result) c.args.pass.now.me.0.holding (DecidesAfter (world c.args.self.now) (IsElementAnswered (g.A.Devices.keys (world c.args.self.now).opened.devices.value) c.args.id.0 c.args.element.now c.args.out.now c.opaque_call-computed.new.out c.opaque_call-computed.result))
turned g c =
    let t = in_turn c.requires.begun c.requires.stands c.requires.opened (ap (λ v. v.store) c.value.ensures.value) in
    let l = c.opaque_call-computed.ensures in
    let k : IsSteady (world c.args.self.now) c.value.result.now.store c.opaque_call-computed.new.self = record {
      opened = l.opened;
      sized = ap (λ f. g.D.Disk.size f.cells.disk) l.file ∙ t.stands.sized;
      clear = subst IsClear (sym l.buffer) t.stands.clear;
      tells = ap (λ f. is_some (g.D.Disk.contents f.cells.disk)) l.file;
      knows = ap (λ h. is_some h) l.keys;
      later = l.later;
    } in
    let made = makes t c.opaque_call-computed.new.self (model_call c.args.element.now c.args.id.0 (length c.args.out.now)) (model_request c.args.call.now (length c.args.out.now)) (mark_computed c.opaque_call-computed.result) (IsElementAnswered (g.A.Devices.keys c.value.result.now.store.devices) c.args.id.0 c.args.element.now c.args.out.now c.opaque_call-computed.new.out c.opaque_call-computed.result) l.made c.requires.computes in
    turned_after t (model_request c.args.call.now (length c.args.out.now)) (mark_computed c.opaque_call-computed.result) c.args.pass.now.me.0.holding (IsElementAnswered (g.A.Devices.keys (world c.args.self.now).opened.devices.value) c.args.id.0 c.args.element.now c.args.out.now c.opaque_call-computed.new.out c.opaque_call-computed.result) k
    (led_weaker t c.opaque_call-computed.new.self (model_request c.args.call.now (length c.args.out.now)) (mark_computed c.opaque_call-computed.result) c.args.pass.now.me.0.holding (IsElementAnswered (g.A.Devices.keys c.value.result.now.store.devices) c.args.id.0 c.args.element.now c.args.out.now c.opaque_call-computed.new.out c.opaque_call-computed.result) (IsElementAnswered (g.A.Devices.keys (world c.args.self.now).opened.devices.value) c.args.id.0 c.args.element.now c.args.out.now c.opaque_call-computed.new.out c.opaque_call-computed.result) made
    (λ m. as_known (g.A.Devices.keys c.value.result.now.store.devices) (g.A.Devices.keys (world c.args.self.now).opened.devices.value) c.args.id.0 c.args.element.now c.args.out.now c.opaque_call-computed.new.out c.opaque_call-computed.result m (t.stands.knows ∙ ap (λ o. is_some (g.A.Devices.keys o.devices.value)) t.opened)))

pub leave_ranked-rank-requires-clause-stands : goal.leave_ranked-rank-requires-clause-stands
leave_ranked-rank-requires-clause-stands g c κs within = rw c.of.ensures (turned g (goal.at.leave_ranked-rank-requires-clause-stands g c).After-of).stands

pub returns-clause-computed : goal.returns-clause-computed
returns-clause-computed g c = entered_after (rw c.of.ensures at c.leave_ranked-rank.ensures.entered) (turned g (goal.at.returns-clause-computed g c).After-of).decided
