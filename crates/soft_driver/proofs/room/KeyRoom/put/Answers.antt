use Rattle.std.proofs.Common.{ap, arith, is_ok, length, refl, replicate, rules, set, subst, sym, ◌∙◌, ◌≡◌, if◌then◌else◌}
use Rattle.std.specs.{List.insert, Vec.vec_capacity}
use Rattle.soft_driver.proofs.{Common.Held, Common.IsGapFor, Common.IsKeyRoom, Common.IsSized, Common.LacksHandle, Common.held_key, Common.key_held, Common.keys_of, Common.with_held_key, Rooms.has_space, Rooms.lacks_new, Rooms.room_put}
use Rattle.soft_driver.proofs.room.KeyRoom.put.Goals as goal

pub gap_for-gap-requires-clause-new : goal.gap_for-gap-requires-clause-new
gap_for-gap-requires-clause-new c =
    subst (λ xs. LacksHandle xs c.args.handle) (sym c.deref.ensures.value)
    (lacks_new c.self.inside.held.items c.args.handle c.self.invariant.distinct (ap (λ m. held_key m c.args.handle) c.self.view_is ∙ c.requires.new))

pub unwrap-requires : goal.unwrap-requires
unwrap-requires c = let space = has_space c.self.inside.held.items _ _ c.self.invariant c.self.view_is c.requires.space in c.insert.ensures.succeeds (omega (arith, c.self.inside.held.ok.0, space))

-- the room with the key
made : (c : goal.After-self-1) → let e = c.index_mut.result.now in let e' : Held = record e { buffer = c.write_front.new.buffer } in let xs = set c.insert.new.self.items c.gap_for-gap.result e' in
    IsKeyRoom xs (vec_capacity c.insert.new.self) × (keys_of xs ≡ with_held_key c.args.handle (record { key_type = c.args.key_type.0; bytes = c.args.bytes.now }) c.args.self.now)
made c =
    let held = c.self.inside.held.items in
    let first : Held = record { handle = c.args.handle; key_type = c.args.key_type; length = length c.args.bytes.now; buffer = replicate 1024 0 } in
    let b = c.write_front.new.buffer in
    let lies : key_held (record first { buffer = b }) ≡ record { key_type = c.args.key_type.0; bytes = c.args.bytes.now } = ap (λ bytes. record { key_type = c.args.key_type.0; bytes = bytes }) c.write_front.ensures in
    rw (← lies) (room_put held c.insert.new.self.items _ _ _ c.gap_for-gap.result c.args.self.now first c.index_mut.result.now b c.self.invariant c.self.view_is c.requires.new c.requires.space
    (subst (λ xs. IsGapFor xs c.args.handle c.gap_for-gap.result) c.deref.ensures.value c.gap_for-gap.ensures) (search rules) (subst IsSized (sym lies) c.requires.size)
    (c.insert.ensures.items ∙ ap (λ r. if is_ok r then insert held c.gap_for-gap.result first else held) c.unwrap.ensures) c.index_mut.ensures.value refl c.insert.ensures.capacity)

pub invariant_of-self : goal.invariant_of-self
invariant_of-self c = (made c).0

pub returns : goal.returns
returns c = (made c).1
