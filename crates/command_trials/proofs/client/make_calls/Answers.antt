use Rattle.std.proofs.{Common.All, Common.IfSome, Common.arith, Common.subst, Common.sym, Common.◌∙◌, lemmas.List.Elements.All-pop, lemmas.List.Elements.All-push}
use Rattle.callers.specs.Ready.{IsReady}
use Rattle.locked_store.specs.Prelude.{world}
use Rattle.caller_service.specs.Replies.{MayCall}
use Rattle.command_trials.proofs.client.make_calls.Goals as goal

pub client-client-requires-after_bounds : goal.client-client-requires-after_bounds
client-client-requires-after_bounds g c κs within =
    let P = MayCall {d = g.D.Disk} {a = g.A.Devices} {c = g.C.Admission} c.args.service.now in
    let all : All P c.args.callers.now.items = (λ k d lt. let new = c.requires.staff.each k d lt in record { ready = new.ready; within = let none = new.spent in omega arith }) in
    subst (λ o. IfSome o P) c.unwrap.ensures (All-pop P c.args.callers.now.items c.pop.new.self.items c.pop.result c.pop.ensures.items all).1

pub returns-clause-ready : goal.returns-clause-ready
returns-clause-ready g c =
    let P = IsReady (world c.args.service.now.shared) 0 in
    let all : All P c.args.callers.now.items = (λ k d lt. (c.requires.staff.each k d lt).ready) in
    let left = (All-pop P c.args.callers.now.items c.pop.new.self.items c.pop.result c.pop.ensures.items all).0 in
    let back = subst (λ s. MayCall {d = g.D.Disk} {a = g.A.Devices} {c = g.C.Admission} s c.into_caller.result) (c.try_limits-told.ensures ∙ c.client-client.ensures.service) c.into_caller.ensures.may_call in
    subst (All P) (sym c.push_reserved.ensures.items) (All-push P c.pop.new.self.items c.into_caller.result left back.ready)
