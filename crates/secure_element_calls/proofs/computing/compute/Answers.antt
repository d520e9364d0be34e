use Rattle.std.proofs.Common.{ap, arith, replicate, subst, sym, ◌∙◌, ◌≡◌}
use Rattle.secure_element_calls.proofs.{Common.agrees_by, Common.HoldsHandle, Common.length-take, Common.unless-err, Answering.differed, Answering.failed, Answering.gave, Answering.refused}
use Rattle.secure_element_calls.proofs.computing.compute.Goals as goal

pub returns-in-Err-clause-computed : goal.returns-in-Err-clause-computed
returns-in-Err-clause-computed g c =
    refused (g.A.Devices.keys c.args.devices.now) c.args.handle c.args.call.now c.args.out.now c.in-Err.status _ c.requires.fits
    (unless-err _ _ _ (sym c.check.ensures.value ∙ c.in-Err.is))

pub returns-in-Err-fill-clause-computed : goal.returns-in-Err-fill-clause-computed
returns-in-Err-fill-clause-computed g c =
    failed (g.A.Devices.keys c.args.devices.now) c.args.handle c.args.call.now c.args.out.now c.fill-in-Err-fill.new.self c.in-Ok.needed _ c.requires.fits
    (sym c.in-Ok.is ∙ c.check.ensures.value) c.in-Ok.ensures.given
    (c.fill-in-Err-fill.ensures.after (λ y e. e) ∙ ap (λ n. replicate n 0) (omega (arith, c.fill.auto.out, c.in-Ok.ensures.room, length-take c.in-Ok.needed c.args.out.now)))

pub returns-in-Ok-true-clause-computed : goal.returns-in-Ok-true-clause-computed
returns-in-Ok-true-clause-computed g c =
    let held = g.A.Devices.keys c.args.devices.now in
    let call = c.args.call.now in
    gave held c.args.handle call c.args.out.now c.fill.new.out c.in-Ok.needed c.in-Ok-true.ensures.given
    (subst (λ agrees. HoldsHandle held c.args.handle (λ key. agrees ≡ agrees_by call key.bytes)) c.in-Ok-true.field-0-test c.in-Ok-true.ensures.agrees)
    (sym c.in-Ok.is ∙ c.check.ensures.value) c.in-Ok.ensures.given
    (c.fill.auto.out ∙ omega (arith, length-take c.in-Ok.needed c.args.out.now, c.in-Ok.ensures.room))

pub returns-in-Ok-false-clause-computed : goal.returns-in-Ok-false-clause-computed
returns-in-Ok-false-clause-computed g c =
    let held = g.A.Devices.keys c.args.devices.now in
    let call = c.args.call.now in
    differed held c.args.handle call c.args.out.now c.fill.new.out c.in-Ok.needed (c.in-Ok-false.ensures.compared c.in-Ok-false.field-0-test)
    (subst (λ agrees. HoldsHandle held c.args.handle (λ key. agrees ≡ agrees_by call key.bytes)) c.in-Ok-false.field-0-test c.in-Ok-false.ensures.agrees)
    (sym c.in-Ok.is ∙ c.check.ensures.value) c.in-Ok.ensures.given
    (c.fill.auto.out ∙ omega (arith, length-take c.in-Ok.needed c.args.out.now, c.in-Ok.ensures.room))
