use Rattle.locked_store.proofs.Common.{DecidesAfter, HasAttributes, IfErr-weaker, IfOk-weaker, IsRefused, Plain, ap, is_some, mark_of, model_request, there_rows, world}
use Rattle.locked_store.proofs.{Turns.AreTurned, Turns.IsSteady, Turns.few, Turns.in_turn, Turns.ranks_err, Turns.ranks_ok, Turns.reads, Turns.stands_some, Turns.turned_after, Turns.turned_stands, held.SharedStore.attributes.Goals.After-of}
use Rattle.locked_store.proofs.held.SharedStore.attributes.Goals as goal

pub attributes-found-requires-clause-stands : goal.attributes-found-requires-clause-stands
attributes-found-requires-clause-stands g c κs within = stands_some (in_turn c.enter-turn.ensures.begun c.enter-turn.ensures.stands c.enter-turn.ensures.opened (ap (λ v. v.store) c.value.ensures.value))

pub attributes-found-requires-clause-few : goal.attributes-found-requires-clause-few
attributes-found-requires-clause-few g c κs within = few (in_turn c.enter-turn.ensures.begun c.enter-turn.ensures.stands c.enter-turn.ensures.opened (ap (λ v. v.store) c.value.ensures.value))

-- the turn, as the store ended it
turned : (g : _) (c : goal.After-of g) → AreTurned (world c.args.self.now) c.enter-turn.new.pass c.attributes-found.new.self (model_request c.args.call.now c.args.room) mark_of c.enter-turn.new.pass.me.0.holding c.attributes-found.result
    (λ known. DecidesAfter (world c.args.self.now) (HasAttributes c.args.id.0 known))
    (λ status. DecidesAfter (world c.args.self.now) (IsRefused there_rows c.args.id.0 status))
turned g c =
    let t = in_turn c.enter-turn.ensures.begun c.enter-turn.ensures.stands c.enter-turn.ensures.opened (ap (λ v. v.store) c.value.ensures.value) in
    let l = c.attributes-found.ensures in
    let call = model_request c.args.call.now c.args.room in
    let own = c.enter-turn.new.pass.me.0.holding in
    let k : IsSteady (world c.args.self.now) c.value.result.now.store c.attributes-found.new.self = record { opened = l.opened; sized = l.size; clear = l.clear; tells = l.tells; knows = ap (λ d. is_some (g.A.Devices.keys d)) l.devices; later = l.later } in record {
      ok = IfOk-weaker c.attributes-found.result _ _ (λ known read. turned_after t call Plain own (HasAttributes c.args.id.0 known) k (reads t c.attributes-found.new.self call c.args.id.0 Plain (HasAttributes c.args.id.0 known) read c.requires.quiet c.requires.reads)) l.known;
      err = IfErr-weaker c.attributes-found.result _ _ (λ status read. turned_after t call (mark_of status) own (IsRefused there_rows c.args.id.0 status) k (reads t c.attributes-found.new.self call c.args.id.0 (mark_of status) (IsRefused there_rows c.args.id.0 status) read c.requires.quiet c.requires.reads)) l.refused;
    }

pub leave_ranked-rank-requires-clause-begun : goal.leave_ranked-rank-requires-clause-begun
leave_ranked-rank-requires-clause-begun g c κs within = rw c.of-before.ensures c.enter-turn.ensures.begun

pub leave_ranked-rank-requires-clause-stands : goal.leave_ranked-rank-requires-clause-stands
leave_ranked-rank-requires-clause-stands g c κs within = rw c.of.ensures (turned_stands c.attributes-found.result (turned g (goal.at.leave_ranked-rank-requires-clause-stands g c).After-of))

pub returns-clause-known : goal.returns-clause-known
returns-clause-known g c = ranks_ok c.attributes-found.result (turned g (goal.at.returns-clause-known g c).After-of) (rw (c.of-before.ensures, c.of.ensures) at c.leave_ranked-rank.ensures.entered)

pub returns-clause-refused : goal.returns-clause-refused
returns-clause-refused g c = ranks_err c.attributes-found.result (turned g (goal.at.returns-clause-refused g c).After-of) (rw (c.of-before.ensures, c.of.ensures) at c.leave_ranked-rank.ensures.entered)
