use Rattle.std.proofs.Common.{length, take, ◌≡◌}
use Rattle.std.specs.Prelude.{All}
use Rattle.soft_driver.specs.Room.{HasClearBuffer}
use Rattle.soft_driver.proofs.held.clear.Given as goal

abbrev pub invariant-loop-place : goal.invariant-loop-place
invariant-loop-place l = (length l.held ≡ length l.initial.held) × All HasClearBuffer (take l.place l.held)
