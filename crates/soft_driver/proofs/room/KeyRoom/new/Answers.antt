use Rattle.std.proofs.Common.{arith}
use Rattle.soft_driver.proofs.Rooms.{room_new}
use Rattle.soft_driver.proofs.room.KeyRoom.new.Goals as goal

pub invariant_of-result : goal.invariant_of-result
invariant_of-result c = room_new _ _ c.in-Ok.ensures.items (omega (arith, c.in-Ok.ensures.exact))
