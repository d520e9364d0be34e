use Rattle.key_slots.proofs.{Common.full_within, Common.holds_key, Common.inr, Common.key_is_full, Common.slot_at, Common.true, Common.◌≡◌, Agreeing.destroys, Wiping.destroy_leaves, Wiping.ends_one}
use Rattle.key_slots.proofs.slots.KeySlots.destroy.Goals as goal

pub returns-in-Some : goal.returns-in-Some
returns-in-Some c =
    let t = c.args.self.now.table in
    let i = c.in-Some.slot in
    let has = rw c.in-Some.is at c.requires in
    record {
      forgets = λ old new all a sound puts. rw c.mark.ensures.slots (destroys t old new all c.args.id.0 i c.args.self.now.lawful sound has puts a);
      wipes = rw c.mark.ensures.slots (ends_one t.slots i _ (λ k s. holds_key c.args.id.0 s ≡ true) (inr has) (full_within t.slots i (key_is_full c.args.id.0 (slot_at t.slots i) has)));
      ended = λ k had. rw c.mark.ensures.slots (destroy_leaves t c.args.id.0 i c.args.self.now.lawful has k had);
    }
