use Rattle.session_host.proofs.{Common.HasWorked, Common.arg_send, Common.arg_sync, Common.crosses, Common.get_or, Common.param_send, Common.param_sync, Common.sendable, Common.subst, Common.world, Sent.closure_sync, Sent.service_sync, Sent.worker_send}
use denote.Exit.{no}
use denote.Param.{param}
use Rattle.std.proofs.Crossing as heap
use Rattle.caller_service.specs.contracts.service.Service as Service
use Rattle.script_lang.specs.contracts.script.ScriptLine as ScriptLine
use Rattle.session_host.proofs.running.run_workers.Goals as goal

pub for_each_mut-requires-send-T : goal.for_each_mut-requires-send-T
for_each_mut-requires-send-T g c κs within = param_send 1 _ (arg_send _ no _ (worker_send _ _ _ c.type_bounds.send-D c.type_bounds.send-A c.type_bounds.send-C))

pub for_each_mut-requires-sync-F : goal.for_each_mut-requires-sync-F
for_each_mut-requires-sync-F g c κs within =
    let S = Service.the_row (param 0 g.row.D) (param 1 g.row.A) (param 2 g.row.C) (param 3 g.row.G) g.D.Disk g.A.Devices g.C.Admission in
    let service = service_sync (param 0 g.row.D) (param 1 g.row.A) (param 2 g.row.C) c.type_bounds.send-D c.type_bounds.send-A c.type_bounds.send-C (param 3 g.row.G) g.D.Disk g.A.Devices g.C.Admission c.type_bounds.sync-G in
    param_sync 2 _ (arg_sync _ no _ (closure_sync _ _ _ _ _ _ (param 4 g.row.R) _ S ScriptLine.the_row tt tt tt tt tt c.type_bounds.sync-R heap.sync service (search (sendable, crosses) depth 60 fits 100000)))

pub returns : goal.returns
returns g c k d within =
    let w = world c.args.service.now.shared in
    let e = (c.for_each_mut.ensures k d within).1 in
    subst (λ y. HasWorked w c.args.names.now c.args.lines.now (get_or c.args.workers.now k d) y) e.left (subst (λ x. HasWorked w c.args.names.now c.args.lines.now x e.after_call.now) e.argument_is e.call)
