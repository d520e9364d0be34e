use Rattle.session_host.proofs.{Common.HasLearned, Common.IsReady, Common.StartsWith, Common.entries_of, Common.get_or-set_same, Common.get_or_default, Common.seen_begins, Common.subst, Common.sym, Common.world, Common.◌∙◌, Meeting.changes_set, Meeting.has_learned}
use Rattle.session_host.proofs.worker.Worker.learn.Goals as goal

pub learn-requires-clause-ready : goal.learn-requires-clause-ready
learn-requires-clause-ready g c κs within =
    let w = world c.args.service.now.shared in
    subst (λ s. IsReady w 0 s.caller) (sym c.index_mut.ensures.value) (c.requires.ready c.index_mut.result.now)

pub returns-clause-learned : goal.returns-clause-learned
returns-clause-learned g c =
    let w = world c.args.service.now.shared in
    let s = c.index_mut.result.now in let items = c.args.self.now.sessions.items in let i = c.args.place in let new = record s { caller = c.learn.new.self } in
    changes_set (HasLearned w) items i new c.requires.place
    (λ d. subst (λ x. HasLearned w x new) (c.index_mut.ensures.value ∙ get_or_default items i s d c.requires.place)
    (has_learned w s.caller c.learn.new.self s.replies s.given c.args.watcher.me.0 c.learn.ensures.ready c.learn.ensures.pass c.learn.ensures.own c.learn.ensures.same))

pub returns-clause-met : goal.returns-clause-met
returns-clause-met g c = λ d.
    let new = record c.index_mut.result.now { caller = c.learn.new.self } in
    subst (λ s. StartsWith (entries_of s.caller.pass.me.0.seen) (entries_of c.args.watcher.me.0.seen)) (sym (get_or-set_same c.args.self.now.sessions.items c.args.place new d c.requires.place))
    (seen_begins c.args.watcher.me.0 c.learn.new.self.pass.me.0 c.learn.ensures.learned)
