use Rattle.session_host.proofs.Common.{ap, set, set-get_or, ◌∙◌}
use Rattle.session_host.proofs.worker.Worker.watch.Goals as goal

pub returns-clause-items : goal.returns-clause-items
returns-clause-items g c =
    let s = c.index_mut.result.now in let items = c.args.self.now.sessions.items in let i = c.args.place in
    ap (λ k. set items i (record s { caller = k })) c.watch.ensures.same ∙ (ap (set items i) c.index_mut.ensures.value ∙ set-get_or items i s)
