use Rattle.locked_store.proofs.Common.{DecidesBefore, IfErr-weaker, IfOk-weaker, IsClear, IsUndestroyed, MayDestroy, Plain, ap, mark_undestroyed, model_request, subst, sym, world}
use Rattle.locked_store.proofs.{Turns.AreTurned, Turns.IsSteady, Turns.destroys, Turns.few, Turns.in_turn, Turns.ranks_err, Turns.ranks_ok, Turns.stands_some, Turns.turned_before, Turns.turned_stands, held.SharedStore.destroy.Goals.After-of}
use Rattle.locked_store.proofs.held.SharedStore.destroy.Goals as goal

pub destroy-destroyed-requires-clause-stands : goal.destroy-destroyed-requires-clause-stands
destroy-destroyed-requires-clause-stands g c κs within = stands_some (in_turn c.enter-turn.ensures.begun c.enter-turn.ensures.stands c.enter-turn.ensures.opened (ap (λ v. v.store) c.value.ensures.value))

pub destroy-destroyed-requires-clause-few : goal.destroy-destroyed-requires-clause-few
destroy-destroyed-requires-clause-few g c κs within = few (in_turn c.enter-turn.ensures.begun c.enter-turn.ensures.stands c.enter-turn.ensures.opened (ap (λ v. v.store) c.value.ensures.value))

-- the turn, as the store ended it
turned : (g : _) (c : goal.After-of g) → AreTurned (world c.args.self.now) c.enter-turn.new.pass c.destroy-destroyed.new.self (model_request c.args.call.now c.args.room) mark_undestroyed c.enter-turn.new.pass.me.0.holding c.destroy-destroyed.result
    (λ _. DecidesBefore (world c.args.self.now) (MayDestroy c.args.id.0))
    (λ why. DecidesBefore (world c.args.self.now) (IsUndestroyed c.args.id.0 why))
turned g c =
    let t = in_turn c.enter-turn.ensures.begun c.enter-turn.ensures.stands c.enter-turn.ensures.opened (ap (λ v. v.store) c.value.ensures.value) in
    let l = c.destroy-destroyed.ensures in
    let call = model_request c.args.call.now c.args.room in
    let own = c.enter-turn.new.pass.me.0.holding in
    let k : IsSteady (world c.args.self.now) c.value.result.now.store c.destroy-destroyed.new.self = record { opened = l.opened; sized = l.size; clear = subst IsClear (sym l.buffer) t.stands.clear; tells = l.tells; knows = l.knows; later = l.later } in record {
      ok = IfOk-weaker c.destroy-destroyed.result _ _ (λ _ destroyed. turned_before t call Plain own (MayDestroy c.args.id.0) k (destroys t c.destroy-destroyed.new.self call c.args.id.0 Plain (MayDestroy c.args.id.0) destroyed c.requires.destroys)) l.destroyed;
      err = IfErr-weaker c.destroy-destroyed.result _ _ (λ why failed. turned_before t call (mark_undestroyed why) own (IsUndestroyed c.args.id.0 why) k (destroys t c.destroy-destroyed.new.self call c.args.id.0 (mark_undestroyed why) (IsUndestroyed c.args.id.0 why) failed c.requires.destroys)) l.failed;
    }

pub leave_ranked-rank-requires-clause-begun : goal.leave_ranked-rank-requires-clause-begun
leave_ranked-rank-requires-clause-begun g c κs within = rw c.of-before.ensures c.enter-turn.ensures.begun

pub leave_ranked-rank-requires-clause-stands : goal.leave_ranked-rank-requires-clause-stands
leave_ranked-rank-requires-clause-stands g c κs within = rw c.of.ensures (turned_stands c.destroy-destroyed.result (turned g (goal.at.leave_ranked-rank-requires-clause-stands g c).After-of))

pub returns-clause-destroyed : goal.returns-clause-destroyed
returns-clause-destroyed g c = ranks_ok c.destroy-destroyed.result (turned g (goal.at.returns-clause-destroyed g c).After-of) (rw (c.of-before.ensures, c.of.ensures) at c.leave_ranked-rank.ensures.entered)

pub returns-clause-failed : goal.returns-clause-failed
returns-clause-failed g c = ranks_err c.destroy-destroyed.result (turned g (goal.at.returns-clause-failed g c).After-of) (rw (c.of-before.ensures, c.of.ensures) at c.leave_ranked-rank.ensures.entered)
