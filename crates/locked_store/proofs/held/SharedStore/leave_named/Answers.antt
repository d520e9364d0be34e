use Rattle.locked_store.proofs.{Common.Some, Common.after_change, Common.entries_of, Common.length, Common.lock_of, Common.mark_met, Common.model_request, Common.opened_of, Common.refl, Common.sym, Common.turn_entry, Common.world, Common.◌∙◌, Renewing.at_after, Renewing.entered_after_turn, Renewing.legal_after}
use Rattle.turn_history.proofs.Keeping.{some_same}
use Rattle.locked_store.proofs.held.SharedStore.leave_named.Goals as goal

pub returns : goal.returns
unfolding lock_of opened_of
returns g c =
    let r = c.requires in
    let e = turn_entry g.D.Disk g.A.Devices c.args.turn.value.value.store c.args.pass.now.me.0.number (model_request c.args.call.now c.args.room) (mark_met c.args.met) in
    let own = after_change c.args.change.now c.args.pass.now.me.0.holding in
    let me = rw (r.names.0, r.names.1) at c.leave.ensures.pass in
    let place = rw (r.names.0) at c.leave.ensures.place in record {
      at = at_after (world c.args.self.now) c.args.before.value.me.0 c.args.pass.now c.args.turn.entries r.begun c.leave.new.pass (Some e) own c.args.turn.value.value.store c.leave.ensures.same.0 me c.leave.ensures.calls r.opened r.stands;
      legal = legal_after (world c.args.self.now) c.args.before.value.me.0 c.args.pass.now c.args.turn.entries r.begun c.leave.new.pass (Some e) own c.args.turn.value.value.store me r.opened r.stands;
      entered = entered_after_turn (world c.args.self.now) c.args.before.value.me.0 c.args.pass.now c.args.turn.entries r.begun c.leave.new.pass e c.args.change.now c.unwrap-rank.result me r.stands.signed (some_same c.unwrap-rank.result (length (entries_of c.args.pass.now.me.0.seen)) (sym c.unwrap-rank.ensures ∙ place)) refl;
    }

pub leave-requires-clause-own : goal.leave-requires-clause-own
unfolding lock_of opened_of
leave-requires-clause-own g c = c.requires.begun.table
