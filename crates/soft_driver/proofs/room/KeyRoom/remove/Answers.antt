use Rattle.std.proofs.Common.{subst}
use Rattle.soft_driver.proofs.{Common.HasHandleAt, Rooms.lacks_not, Rooms.room_without}
use Rattle.soft_driver.proofs.room.KeyRoom.remove.Goals as goal

pub held_index-index-requires-clause-there : goal.held_index-index-requires-clause-there
held_index-index-requires-clause-there c = lacks_not c.self.inside.held.items c.deref.result.now c.args.self.now c.args.handle c.self.view_is c.requires c.deref.ensures.value

pub invariant_of-self : goal.invariant_of-self
invariant_of-self c =
    (room_without _ _ _ _ c.held_index-index.result c.args.handle c.args.self.now c.self.invariant c.self.view_is
    (subst (λ xs. HasHandleAt xs c.args.handle c.held_index-index.result) c.deref.ensures.value c.held_index-index.ensures) c.let_key_go.ensures.others c.let_key_go.ensures.room).0

pub returns : goal.returns
returns c =
    (room_without _ _ _ _ c.held_index-index.result c.args.handle c.args.self.now c.self.invariant c.self.view_is
    (subst (λ xs. HasHandleAt xs c.args.handle c.held_index-index.result) c.deref.ensures.value c.held_index-index.ensures) c.let_key_go.ensures.others c.let_key_go.ensures.room).1
