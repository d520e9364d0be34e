use Rattle.std.proofs.{Common.All, Common.IfSome, Common.arith, Common.subst, Common.sym, Common.◌∙◌, lemmas.List.Elements.All-pop, lemmas.List.Elements.All-push}
use Rattle.callers.specs.Ready.{IsReady}
use Rattle.locked_store.specs.Prelude.{world}
use Rattle.caller_service.specs.Replies.{MayCall}
use Rattle.library_example.proofs.share_key.Goals as goal

pub client-keeper-requires-after_bounds : goal.client-keeper-requires-after_bounds
client-keeper-requires-after_bounds g c κs within =
    let P = MayCall {d = g.D.Disk} {a = g.A.Devices} {c = g.C.Admission} c.args.service.now in
    let all : All P c.args.callers.now.items = (λ k d lt. let new = c.requires.staff.each k d lt in record { ready = new.ready; within = let none = new.spent in omega arith }) in
    subst (λ o. IfSome o P) c.unwrap.ensures (All-pop P c.args.callers.now.items c.pop.new.self.items c.pop.result c.pop.ensures.items all).1

pub client-user-requires-after_bounds : goal.client-user-requires-after_bounds
client-user-requires-after_bounds g c κs within =
    let P = MayCall {d = g.D.Disk} {a = g.A.Devices} {c = g.C.Admission} c.args.service.now in
    let all : All P c.args.callers.now.items = (λ k d lt. let new = c.requires.staff.each k d lt in record { ready = new.ready; within = let none = new.spent in omega arith }) in
    let left = (All-pop P c.args.callers.now.items c.pop.new.self.items c.pop.result c.pop.ensures.items all).0 in
    subst (λ o. IfSome o P) c.unwrap-2.ensures (All-pop P c.pop.new.self.items c.pop-2.new.self.items c.pop-2.result c.pop-2.ensures.items left).1

pub returns-clause-ready : goal.returns-clause-ready
returns-clause-ready g c =
    let P = IsReady (world c.args.service.now.shared) 0 in
    let all : All P c.args.callers.now.items = (λ k d lt. (c.requires.staff.each k d lt).ready) in
    let one = (All-pop P c.args.callers.now.items c.pop.new.self.items c.pop.result c.pop.ensures.items all).0 in
    let two = (All-pop P c.pop.new.self.items c.pop-2.new.self.items c.pop-2.result c.pop-2.ensures.items one).0 in
    let user = subst (λ s. MayCall {d = g.D.Disk} {a = g.A.Devices} {c = g.C.Admission} s c.into_caller.result) (c.mac_compute-computed.ensures.service ∙ c.client-user.ensures.service) c.into_caller.ensures.may_call in
    let keeper = subst (λ s. MayCall {d = g.D.Disk} {a = g.A.Devices} {c = g.C.Admission} s c.into_caller-2.result) (c.import_key-kept.ensures.service ∙ c.client-keeper.ensures.service) c.into_caller-2.ensures.may_call in
    subst (All P) (sym c.push_reserved-2.ensures.items) (All-push P c.push_reserved.new.self.items c.into_caller-2.result
    (subst (All P) (sym c.push_reserved.ensures.items) (All-push P c.pop-2.new.self.items c.into_caller.result two user.ready)) keeper.ready)
