use Rattle.locked_store.proofs.Common.{DecidesBefore, IfErr-weaker, IfOk-weaker, IsMade, IsUncopied, Plain, RecordsCopy, ap, filling_pair, mark_uncopied, model_request, without_pair, world}
use Rattle.locked_store.proofs.{Turns.AreTurned, Turns.IsSteady, Turns.copies, Turns.few, Turns.in_turn, Turns.is_last, Turns.out, Turns.ranks_err, Turns.ranks_ok, Turns.turned_before, Turns.turned_stands, held.SharedStore.copy.Goals.After-of-2}
use Rattle.locked_store.proofs.held.SharedStore.copy.Goals as goal

pub copy-copied-requires-clause-last : goal.copy-copied-requires-clause-last
copy-copied-requires-clause-last g c κs within = is_last (in_turn c.enter-turn.ensures.begun c.enter-turn.ensures.stands c.enter-turn.ensures.opened (ap (λ v. v.store) c.value.ensures.value)) c.args.caller c.requires.caller

pub copy-copied-requires-clause-out : goal.copy-copied-requires-clause-out
copy-copied-requires-clause-out g c κs within = out (in_turn c.enter-turn.ensures.begun c.enter-turn.ensures.stands c.enter-turn.ensures.opened (ap (λ v. v.store) c.value.ensures.value)) (filling_pair c.args.filling) c.requires.out

pub copy-copied-requires-clause-few : goal.copy-copied-requires-clause-few
copy-copied-requires-clause-few g c κs within = few (in_turn c.enter-turn.ensures.begun c.enter-turn.ensures.stands c.enter-turn.ensures.opened (ap (λ v. v.store) c.value.ensures.value))

-- the turn, as the store ended it
turned : (g : _) (c : goal.After-of-2 g) → AreTurned (world c.args.self.now) c.enter-turn.new.pass c.copy-copied.new.self (model_request c.args.call.now c.args.room) mark_uncopied (without_pair (filling_pair c.args.filling) c.enter-turn.new.pass.me.0.holding) c.copy-copied.result
    (λ id. DecidesBefore (world c.args.self.now) (IsMade (RecordsCopy c.args.caller c.args.source.0 c.args.attributes.now) c.args.caller id.0))
    (λ why. DecidesBefore (world c.args.self.now) (IsUncopied (RecordsCopy c.args.caller c.args.source.0 c.args.attributes.now) c.args.source.0 why))
turned g c =
    let t = in_turn c.enter-turn.ensures.begun c.enter-turn.ensures.stands c.enter-turn.ensures.opened (ap (λ v. v.store) c.value.ensures.value) in
    let l = c.copy-copied.ensures in
    let call = model_request c.args.call.now c.args.room in
    let own = (without_pair (filling_pair c.args.filling) c.enter-turn.new.pass.me.0.holding) in
    let k : IsSteady (world c.args.self.now) c.value.result.now.store c.copy-copied.new.self = record { opened = l.opened; sized = l.size; clear = l.clear; tells = l.tells; knows = l.knows; later = l.later } in record {
      ok = IfOk-weaker c.copy-copied.result _ _ (λ id made. turned_before t call Plain own (IsMade (RecordsCopy c.args.caller c.args.source.0 c.args.attributes.now) c.args.caller id.0) k (copies t c.copy-copied.new.self call c.args.caller c.args.source.0 c.args.attributes.now (filling_pair c.args.filling) Plain (IsMade (RecordsCopy c.args.caller c.args.source.0 c.args.attributes.now) c.args.caller id.0) k made c.requires.at.holding c.requires.out c.requires.caller c.requires.copies)) l.made;
      err = IfErr-weaker c.copy-copied.result _ _ (λ why made. turned_before t call (mark_uncopied why) own (IsUncopied (RecordsCopy c.args.caller c.args.source.0 c.args.attributes.now) c.args.source.0 why) k (copies t c.copy-copied.new.self call c.args.caller c.args.source.0 c.args.attributes.now (filling_pair c.args.filling) (mark_uncopied why) (IsUncopied (RecordsCopy c.args.caller c.args.source.0 c.args.attributes.now) c.args.source.0 why) k made c.requires.at.holding c.requires.out c.requires.caller c.requires.copies)) l.uncopied;
    }

pub leave_ranked-rank-requires-clause-begun : goal.leave_ranked-rank-requires-clause-begun
leave_ranked-rank-requires-clause-begun g c κs within = rw c.of-before.ensures c.enter-turn.ensures.begun

pub leave_ranked-rank-requires-clause-stands : goal.leave_ranked-rank-requires-clause-stands
leave_ranked-rank-requires-clause-stands g c κs within = rw (c.of.ensures, c.of-2.ensures) (turned_stands c.copy-copied.result (turned g (goal.at.leave_ranked-rank-requires-clause-stands g c).After-of-2))

pub returns-clause-made : goal.returns-clause-made
returns-clause-made g c = ranks_ok c.copy-copied.result (turned g (goal.at.returns-clause-made g c).After-of-2) (rw (c.of-before.ensures, c.of.ensures, c.of-2.ensures) at c.leave_ranked-rank.ensures.entered)

pub returns-clause-uncopied : goal.returns-clause-uncopied
returns-clause-uncopied g c = ranks_err c.copy-copied.result (turned g (goal.at.returns-clause-uncopied g c).After-of-2) (rw (c.of-before.ensures, c.of.ensures, c.of-2.ensures) at c.leave_ranked-rank.ensures.entered)
