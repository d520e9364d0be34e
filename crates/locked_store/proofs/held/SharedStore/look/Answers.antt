use Rattle.locked_store.proofs.{Common.IfErr-weaker, Common.IsEntered, Common.entries_of, Common.mark_of, Common.model_request, Common.subst, Renewing.model_as, Turns.ranked}
use Rattle.locked_store.proofs.held.SharedStore.look.Goals as goal

pub look_in-requires-clause-begun : goal.look_in-requires-clause-begun
look_in-requires-clause-begun g c κs within = rw c.of-before.ensures c.enter-turn.ensures.begun

pub look_in-requires-clause-holding : goal.look_in-requires-clause-holding
look_in-requires-clause-holding g c κs within = rw c.of-before.ensures c.requires.at.holding

pub look_in-requires-clause-space : goal.look_in-requires-clause-space
look_in-requires-clause-space g c κs within = rw c.of-before.ensures c.requires.space

pub look_in-requires-clause-reads : goal.look_in-requires-clause-reads
look_in-requires-clause-reads g c κs within = rw c.of-before.ensures c.requires.reads

pub returns-clause-refused : goal.returns-clause-refused
returns-clause-refused g c = IfErr-weaker c.look_in.result.1 _ _ (λ refused ended.
    ranked (subst (λ q. IsEntered q.me.0 c.look_in.new.pass.me.0 (model_request c.args.call.now c.args.room) (mark_of refused.0) c.look_in.result.0 q.me.0.holding (entries_of c.enter-turn.new.pass.me.0.seen) ended.entry) c.of-before.ensures ended.entered)
    (λ start is. model_as (λ k. k) (λ m r. r.0) (ended.decided start is))) c.look_in.ensures.refused
