use Rattle.locked_store.proofs.Common.{DecidesBefore, IfErr-weaker, IfOk-weaker, IsMade, IsUnmade, Plain, RecordsStated, ap, filling_pair, length, mark_unmade, model_request, option_map, without_pair, world}
use Rattle.locked_store.proofs.{Turns.AreTurned, Turns.IsSteady, Turns.creates, Turns.few, Turns.in_turn, Turns.is_last, Turns.out_beside, Turns.ranks_err, Turns.ranks_ok, Turns.turned_before, Turns.turned_stands, held.SharedStore.finish.Goals.After-of-2}
use Rattle.locked_store.proofs.held.SharedStore.finish.Goals as goal

pub finish-made-requires-clause-last : goal.finish-made-requires-clause-last
finish-made-requires-clause-last g c κs within = is_last (in_turn c.enter-turn.ensures.begun c.enter-turn.ensures.stands c.enter-turn.ensures.opened (ap (λ v. v.store) c.value.ensures.value)) c.args.caller c.requires.caller

pub finish-made-requires-clause-out : goal.finish-made-requires-clause-out
finish-made-requires-clause-out g c κs within = out_beside (in_turn c.enter-turn.ensures.begun c.enter-turn.ensures.stands c.enter-turn.ensures.opened (ap (λ v. v.store) c.value.ensures.value)) (filling_pair c.args.filling) (option_map (λ l. l.now) c.args.lease) c.requires.out c.requires.lent

pub finish-made-requires-clause-few : goal.finish-made-requires-clause-few
finish-made-requires-clause-few g c κs within = few (in_turn c.enter-turn.ensures.begun c.enter-turn.ensures.stands c.enter-turn.ensures.opened (ap (λ v. v.store) c.value.ensures.value))

-- the turn, as the store ended it
turned : (g : _) (c : goal.After-of-2 g) → AreTurned (world c.args.self.now) c.enter-turn.new.pass c.finish-made.new.self (model_request c.args.call.now c.args.room) mark_unmade (without_pair (filling_pair c.args.filling) c.enter-turn.new.pass.me.0.holding) c.finish-made.result
    (λ id. DecidesBefore (world c.args.self.now) (IsMade (RecordsStated (option_map (λ l. l.now) c.args.lease) c.args.caller c.args.attributes.now (length c.args.bytes.now)) c.args.caller id.0))
    (λ why. DecidesBefore (world c.args.self.now) (IsUnmade (RecordsStated (option_map (λ l. l.now) c.args.lease) c.args.caller c.args.attributes.now (length c.args.bytes.now)) why))
turned g c =
    let t = in_turn c.enter-turn.ensures.begun c.enter-turn.ensures.stands c.enter-turn.ensures.opened (ap (λ v. v.store) c.value.ensures.value) in
    let l = c.finish-made.ensures in
    let call = model_request c.args.call.now c.args.room in
    let own = (without_pair (filling_pair c.args.filling) c.enter-turn.new.pass.me.0.holding) in
    let k : IsSteady (world c.args.self.now) c.value.result.now.store c.finish-made.new.self = record { opened = l.opened; sized = l.size; clear = l.clear t.stands.clear; tells = l.tells; knows = l.knows; later = l.later } in record {
      ok = IfOk-weaker c.finish-made.result _ _ (λ id made. turned_before t call Plain own (IsMade (RecordsStated (option_map (λ l. l.now) c.args.lease) c.args.caller c.args.attributes.now (length c.args.bytes.now)) c.args.caller id.0) k (creates t c.finish-made.new.self call c.args.caller (option_map (λ l. l.now) c.args.lease) (RecordsStated (option_map (λ l. l.now) c.args.lease) c.args.caller c.args.attributes.now (length c.args.bytes.now)) c.args.bytes.now (filling_pair c.args.filling) Plain (IsMade (RecordsStated (option_map (λ l. l.now) c.args.lease) c.args.caller c.args.attributes.now (length c.args.bytes.now)) c.args.caller id.0) made c.requires.at.holding c.requires.out c.requires.lent c.requires.caller c.requires.creates)) l.made;
      err = IfErr-weaker c.finish-made.result _ _ (λ why made. turned_before t call (mark_unmade why) own (IsUnmade (RecordsStated (option_map (λ l. l.now) c.args.lease) c.args.caller c.args.attributes.now (length c.args.bytes.now)) why) k (creates t c.finish-made.new.self call c.args.caller (option_map (λ l. l.now) c.args.lease) (RecordsStated (option_map (λ l. l.now) c.args.lease) c.args.caller c.args.attributes.now (length c.args.bytes.now)) c.args.bytes.now (filling_pair c.args.filling) (mark_unmade why) (IsUnmade (RecordsStated (option_map (λ l. l.now) c.args.lease) c.args.caller c.args.attributes.now (length c.args.bytes.now)) why) made c.requires.at.holding c.requires.out c.requires.lent c.requires.caller c.requires.creates)) l.unmade;
    }

pub leave_ranked-rank-requires-clause-begun : goal.leave_ranked-rank-requires-clause-begun
leave_ranked-rank-requires-clause-begun g c κs within = rw c.of-before.ensures c.enter-turn.ensures.begun

pub leave_ranked-rank-requires-clause-stands : goal.leave_ranked-rank-requires-clause-stands
leave_ranked-rank-requires-clause-stands g c κs within = rw (c.of.ensures, c.of-2.ensures) (turned_stands c.finish-made.result (turned g (goal.at.leave_ranked-rank-requires-clause-stands g c).After-of-2))

pub returns-clause-made : goal.returns-clause-made
returns-clause-made g c = ranks_ok c.finish-made.result (turned g (goal.at.returns-clause-made g c).After-of-2) (rw (c.of-before.ensures, c.of.ensures, c.of-2.ensures) at c.leave_ranked-rank.ensures.entered)

pub returns-clause-unmade : goal.returns-clause-unmade
returns-clause-unmade g c = ranks_err c.finish-made.result (turned g (goal.at.returns-clause-unmade g c).After-of-2) (rw (c.of-before.ensures, c.of.ensures, c.of-2.ensures) at c.leave_ranked-rank.ensures.entered)
