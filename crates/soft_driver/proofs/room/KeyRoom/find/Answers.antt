use Rattle.std.proofs.Common.{Some, ap, refl, subst, sym, ◌∙◌, ◌≡◌}
use Rattle.soft_driver.proofs.{Common.HasHandleAt, Common.IsSized, Common.IsSomeKey, Common.held_key, Common.key_held, Common.keys_of, Rooms.in_map, Rooms.lacks_not}
use Rattle.soft_driver.proofs.room.KeyRoom.find.Goals as goal

pub held_index-requires-clause-there : goal.held_index-requires-clause-there
held_index-requires-clause-there c =
    lacks_not c.self.inside.held.items c.deref.result.now c.args.self.now c.args.handle c.self.view_is c.requires c.deref.ensures.value

pub returns : goal.returns
returns c =
    let held = c.self.inside.held.items in let key = c.index-key.result.now in
    let here : HasHandleAt held c.args.handle c.held_index.result = subst (λ xs. HasHandleAt xs c.args.handle c.held_index.result) c.deref.ensures.value c.held_index.ensures in
    let there : held_key c.args.self.now c.args.handle ≡ Some (key_held key) =
    ap (λ m. held_key m c.args.handle) (sym c.self.view_is) ∙ ap (held_key (keys_of held)) (sym (here.named key))
    ∙ in_map held c.held_index.result key c.self.invariant.distinct here.within ∙ ap (λ h. Some (key_held h)) (sym c.index-key.ensures) in
    subst (λ o. IsSomeKey o (λ k. (k ≡ key_held key) × IsSized k)) (sym there)
    (refl, subst (λ h. IsSized (key_held h)) (sym c.index-key.ensures) (c.self.invariant.lies c.held_index.result key here.within).1)
