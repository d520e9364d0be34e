use Rattle.locked_store.proofs.Common.{Some, after_change, mark_met, model_request, turn_entry}
use Rattle.locked_store.proofs.held.SharedStore.leave_ranked.Given as goal

-- the call is the entry of its turn
abbrev pub ghosts-leave_named : goal.ghosts-leave_named
ghosts-leave_named g a = record {
  entry = Some (turn_entry g.D.Disk g.A.Devices a.turn.value.value.store a.pass.now.me.0.number (model_request a.call.now a.room) (mark_met a.met));
  holding = after_change a.change.now a.pass.now.me.0.holding;
}
