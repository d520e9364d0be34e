use Rattle.locked_store.proofs.{Common.None, Common.after_change, Common.entries_of, Common.lock_of, Common.opened_of, Common.with_held_by, Common.world, Renewing.at_after, Renewing.later_after_turn, Renewing.legal_after, Renewing.with_nothing}
use Rattle.locked_store.proofs.held.SharedStore.leave_unranked.Goals as goal

pub leave-requires-clause-value : goal.leave-requires-clause-value
unfolding lock_of opened_of
leave-requires-clause-value g c =
    let w = c.args.pass.now.me.0 in
    rw (c.requires.names.0, c.requires.names.1)
    (with_nothing (world c.args.self.now) c.args.turn.value.value.store (entries_of w.seen) (with_held_by w.holdings w.number (after_change c.args.change.now w.holding)) c.requires.stands)

pub returns : goal.returns
unfolding lock_of opened_of
returns g c =
    let r = c.requires in
    let w = c.args.pass.now.me.0 in
    let own = after_change c.args.change.now w.holding in
    let me = rw (r.names.0, r.names.1) at c.leave.ensures.pass in
    let stands = with_nothing (world c.args.self.now) c.args.turn.value.value.store (entries_of w.seen) (with_held_by w.holdings w.number own) r.stands in record {
      at = at_after (world c.args.self.now) c.args.before.value.me.0 c.args.pass.now c.args.turn.entries r.begun c.leave.new.pass None own c.args.turn.value.value.store c.leave.ensures.same.0 me c.leave.ensures.calls r.opened stands;
      legal = legal_after (world c.args.self.now) c.args.before.value.me.0 c.args.pass.now c.args.turn.entries r.begun c.leave.new.pass None own c.args.turn.value.value.store me r.opened stands;
      later = later_after_turn (world c.args.self.now) c.args.before.value.me.0 c.args.pass.now c.args.turn.entries r.begun c.leave.new.pass c.args.change.now me;
    }

pub leave-requires-clause-own : goal.leave-requires-clause-own
unfolding lock_of opened_of
leave-requires-clause-own g c = c.requires.begun.table
