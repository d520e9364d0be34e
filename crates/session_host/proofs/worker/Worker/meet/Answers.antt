use Rattle.session_host.proofs.{Common.ChangesAt, Common.HasLearned, Common.IfSome, Common.IsReady, Common.Legal, Common.StartsWith, Common.ap, Common.entries_of, Common.get_or, Common.length, Common.subst, Common.sym, Common.world, Common.◌<◌, Meeting.changes_none, Meeting.item_of, Meeting.learned_nothing}
use Rattle.session_host.proofs.worker.Worker.meet.Goals as goal

pub returns-in_default-clause-learned : goal.returns-in_default-clause-learned
returns-in_default-clause-learned g c =
    let w = world c.args.service.now.shared in
    let items = c.args.self.now.sessions.items in
    changes_none (HasLearned w) items c.args.place (λ d. learned_nothing w (get_or items c.args.place d) (c.requires.ready c.args.place d c.requires.place))

pub learn-requires-clause-ready : goal.learn-requires-clause-ready
learn-requires-clause-ready g c κs within = λ d.
    let w = world c.args.service.now.shared in
    subst (λ xs. IsReady w 0 (get_or xs c.args.place d).caller) (sym c.watch-watcher.ensures.items) (c.requires.ready c.args.place d c.requires.place)

pub learn-requires-clause-weightless : goal.learn-requires-clause-weightless
learn-requires-clause-weightless g c κs within =
    let items = c.args.self.now.sessions.items in
    let inside : c.in-Some.last < length items = subst (λ o. IfSome o (λ last. last < length items)) c.in-Some.is c.requires.last in
    ap (λ m. m.0.weight) (c.watch-watcher.ensures.watcher (item_of items c.in-Some.last inside))

pub learn-requires-clause-legal : goal.learn-requires-clause-legal
learn-requires-clause-legal g c κs within =
    let w = world c.args.service.now.shared in
    let items = c.args.self.now.sessions.items in
    let inside : c.in-Some.last < length items = subst (λ o. IfSome o (λ last. last < length items)) c.in-Some.is c.requires.last in
    let d = item_of items c.in-Some.last inside in
    subst (λ h. Legal w (entries_of h)) (sym (ap (λ m. m.0.seen) (c.watch-watcher.ensures.watcher d))) (c.requires.ready c.in-Some.last d inside).legal

pub returns-then-last-place-clause-learned : goal.returns-then-last-place-clause-learned
returns-then-last-place-clause-learned g c =
    let w = world c.args.service.now.shared in
    subst (λ xs. ChangesAt c.args.place (HasLearned w) xs c.learn.new.self.sessions.items) c.watch-watcher.ensures.items c.learn.ensures.learned

pub returns-then-last-place-clause-met : goal.returns-then-last-place-clause-met
returns-then-last-place-clause-met g c =
    let items = c.args.self.now.sessions.items in
    subst (λ o. IfSome o (λ last. (d : _) → StartsWith (entries_of (get_or c.learn.new.self.sessions.items c.args.place d).caller.pass.me.0.seen) (entries_of (get_or items last d).caller.pass.me.0.seen))) (sym c.in-Some.is)
    (λ d. subst (λ h. StartsWith (entries_of (get_or c.learn.new.self.sessions.items c.args.place d).caller.pass.me.0.seen) (entries_of h)) (ap (λ m. m.0.seen) (c.watch-watcher.ensures.watcher d)) (c.learn.ensures.met d))

pub returns-else-last-place-clause-learned : goal.returns-else-last-place-clause-learned
returns-else-last-place-clause-learned g c =
    let w = world c.args.service.now.shared in
    let items = c.args.self.now.sessions.items in
    changes_none (HasLearned w) items c.args.place (λ d. learned_nothing w (get_or items c.args.place d) (c.requires.ready c.args.place d c.requires.place))
