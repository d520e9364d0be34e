use Rattle.session_host.proofs.{Common.IsOpening, Common.all_replies, Common.ap, Common.arith, Common.limits_by, Common.subst, Common.sym, Common.world, Common.◌∙◌, Ran.answered, Ran.broken, Unopened.owners_range, Unopened.unopened}
use Rattle.session_host.specs.Runs.{IsUnanswered}
use Rattle.store_core.specs.Prelude.{HasRoom}
use Rattle.session_host.proofs.lines.answer_lines.Goals as goal

pub close-disk-requires-clause-ready : goal.close-disk-requires-clause-ready
close-disk-requires-clause-ready g c κs within = λ k d lt.
    let made = c.run_sessions-ran.ensures.made in ((made.each k d (let n = made.are.sixteen in omega arith)).1).ready

pub returns-in-Ok-ran : goal.returns-in-Ok-ran
returns-in-Ok-ran g c =
    let o = c.in-Ok.ensures in let w = world c.in-Ok.opened.0.shared in
    let opening : IsOpening w c.args.disk c.args.devices (g.C.Admission.labels c.args.rules) c.args.seed.now (limits_by c.args.names.now) = record { starts = o.starts; sound = o.sound; keys = o.keys; found = o.opened.file; later = o.later; devices_are = o.devices; seed_is = o.seed; rules_are = ap g.C.Admission.labels o.rules; limits_are = o.limits ∙ c.limits_by-limits.ensures; directory = o.opened.found; room = subst (λ l. HasRoom l w.opened.file.value.cells.states) c.limits_by-limits.ensures o.room } in
    let k = c.in-Ok-ran.ensures.answered in record {
      replies = all_replies k.told;
      answered =
          answered g.D.Disk g.A.Devices g.C.Admission w.lock w.opened c.args.disk c.args.devices (g.C.Admission.labels c.args.rules) c.args.seed.now c.args.names.now c.close-disk.result.disk c.close-disk.result.devices
          opening c.args.lines.now c.requires.sessions c.run_sessions-ran.new.callers.items c.run_sessions-ran.ensures.made c.close-disk.ensures.closed k.told c.args.workers c.requires.owners k.answered c.in-Ok-ran.ensures.one_worker;
      all = k.all;
      sixteen = k.sixteen;
    }

pub returns : goal.returns
returns g c =
    let o = c.in-Ok.ensures in let w = world c.in-Ok.opened.0.shared in
    let opening : IsOpening w c.args.disk c.args.devices (g.C.Admission.labels c.args.rules) c.args.seed.now (limits_by c.args.names.now) = record { starts = o.starts; sound = o.sound; keys = o.keys; found = o.opened.file; later = o.later; devices_are = o.devices; seed_is = o.seed; rules_are = ap g.C.Admission.labels o.rules; limits_are = o.limits ∙ c.limits_by-limits.ensures; directory = o.opened.found; room = subst (λ l. HasRoom l w.opened.file.value.cells.states) c.limits_by-limits.ensures o.room } in
    broken g.D.Disk g.A.Devices g.C.Admission w.lock w.opened c.args.disk c.args.devices (g.C.Admission.labels c.args.rules) c.args.seed.now c.args.names.now c.close-disk.result.disk c.close-disk.result.devices
    opening c.args.lines.now c.requires.sessions c.run_sessions-ran.new.callers.items c.run_sessions-ran.ensures.made c.close-disk.ensures.closed

pub not_opened-requires : goal.not_opened-requires
not_opened-requires g c = owners_range g.D.Disk c.limits_by-limits.result c.args.disk c.in-Err.unopened.disk c.in-Err.unopened.fault c.in-Err.ensures.refused

pub returns-in-Err : goal.returns-in-Err
returns-in-Err g c =
    let u = c.in-Err.unopened in
    subst (λ why. IsUnanswered g.D.Disk g.A.Devices g.C.Admission c.args.disk c.args.devices (g.C.Admission.labels c.args.rules) c.args.seed.now c.args.names.now c.args.lines.now why u.disk u.devices) (sym c.not_opened.ensures)
    (unopened g.D.Disk g.A.Devices g.C.Admission c.args.names.now c.limits_by-limits.result c.args.disk u.disk c.args.devices u.devices (g.C.Admission.labels c.args.rules) c.args.seed.now c.args.lines.now u.fault c.limits_by-limits.ensures c.in-Err.ensures.refused c.in-Err.ensures.returned)
