use Rattle.locked_store.proofs.Common.{None, after_change}
use Rattle.locked_store.proofs.held.SharedStore.give_back.Given as goal

-- a turn without entry
abbrev pub ghosts-leave_unranked : goal.ghosts-leave_unranked
ghosts-leave_unranked g a = record { entry = None; holding = after_change a.change.now a.pass.now.me.0.holding }
