use Rattle.store_core.proofs.Common.{[], ap, bytes_of, created, first_volatile, full_slot, identified, IsEntry, IsThereOrNew, length, List, new_id, new_key, permits_size, Plain, Puts, ranked_on, refl, slice_index, SlotHasKey, Some, StandsFor, Store, subst, sym, take, ℕ, ◌++◌, ◌+◌, ◌∙◌, ◌∷◌, ◌≡◌}
use Rattle.store_core.proofs.Checked.{local_by, opaque_by, volatile_by}
use Rattle.store_core.proofs.MakesVolatile.{fails_volatile, is_either, is_taken, local_device, local_takes, makes_volatile, next_is, next_new, next_puts, opaque_takes, ready_element, ready_handle, ready_live, ready_made, ready_size, ready_slots, ready_source, ready_type, taken_device}
use Rattle.store_core.proofs.store.Store.create.Goals as goal

pub add-requires-clause-unknown : goal.add-requires-clause-unknown
add-requires-clause-unknown g c κs within = ready_slots c.requires.ready.5 c.requires.first c.requires.last (volatile_by c.args.recorded c.if-recorded-ne0.false) c.args.self.now.slots.lawful.sized

pub add-requires-clause-made : goal.add-requires-clause-made
add-requires-clause-made g c κs within = ready_made c.requires.ready.5 c.requires.first c.requires.last (volatile_by c.args.recorded c.if-recorded-ne0.false)

pub add-requires-clause-live : goal.add-requires-clause-live
add-requires-clause-live g c κs within = ready_live c.requires.ready.5 c.requires.first c.requires.last (volatile_by c.args.recorded c.if-recorded-ne0.false)

pub returns-then-recorded-ne1-clause-made : goal.returns-then-recorded-ne1-clause-made
returns-then-recorded-ne1-clause-made g c = λ start opening h all less e r since gains law making is.
    let old = c.args.self.now in
    let a = c.args.recorded in
    let caller = c.args.caller in
    let m = r.holds.model in
    let own = new_key m caller (new_id m caller a) a r.bytes in
    let after = (created m caller a r.bytes).store in
    let first = c.requires.first in
    let last = c.requires.last in
    let volatile = volatile_by a c.if-recorded-ne0.false in
    let local = local_by a c.if-recorded-ne1.true in
    let id = c.add.ensures.id in
    let rest = c.add.ensures.rest in
    let agrees = c.add.ensures.fills m after all less own r.holds.slots gains (subst (λ n. Puts m after n (Some own)) (sym id) (next_puts r first last volatile))
    (subst (λ n. SlotHasKey (full_slot (old.found + old.ranked) (identified a n) (bytes_of old.buffer)) own) (sym id) (local_takes r first last volatile local))
    (subst (λ n. IsThereOrNew m n own) (sym id) (next_new r first last volatile)) in (
      subst (λ (s : Store _ _ _). StandsFor g.D.Disk g.A.Devices g.C.Admission (ranked_on s) start opening (h ++ e ∷ []) less) (sym rest)
          (makes_volatile r first last volatile g.met.D.Disk.only_now old.devices c.add.new.self.slots old.buffer less making law c.add.ensures.sized refl
          (local_device r first last volatile g.met.D.Disk.only_now old.devices c.add.new.self.slots old.buffer less making law local refl) agrees
          (subst (λ (s : Store _ _ _). IsEntry g.D.Disk g.A.Devices g.C.Admission (ranked_on s) Plain e) rest is)),
      id ∙ sym (next_is r first last volatile),
    )

pub give-requires-clause-element : goal.give-requires-clause-element
give-requires-clause-element g c κs within = ready_element c.requires.ready.5 c.requires.first c.requires.last (volatile_by c.args.recorded c.if-recorded-ne0.false) (opaque_by c.args.recorded c.if-recorded-ne1.false)

pub give-requires-clause-new : goal.give-requires-clause-new
give-requires-clause-new g c κs within = ready_handle c.requires.ready.5 c.requires.first c.requires.last (volatile_by c.args.recorded c.if-recorded-ne0.false)

pub give-requires-clause-known : goal.give-requires-clause-known
give-requires-clause-known g c κs within = ready_type c.requires.ready.5 c.requires.first c.requires.last (volatile_by c.args.recorded c.if-recorded-ne0.false)

pub give-requires-clause-size : goal.give-requires-clause-size
give-requires-clause-size g c κs within =
    λ none. ap (λ (b : List ℕ). permits_size c.args.recorded.key_type.0 (length b)) c.as_slice-bytes.ensures.list
    ∙ ready_size c.requires.ready.5 c.requires.first c.requires.last (volatile_by c.args.recorded c.if-recorded-ne0.false) none

pub give-requires-clause-held : goal.give-requires-clause-held
give-requires-clause-held g c κs within = ready_source c.requires.ready.5 c.requires.first c.requires.last (volatile_by c.args.recorded c.if-recorded-ne0.false)

pub add-requires-in-Ok-clause-unknown : goal.add-requires-in-Ok-clause-unknown
add-requires-in-Ok-clause-unknown g c κs within = ready_slots c.requires.ready.5 c.requires.first c.requires.last (volatile_by c.args.recorded c.if-recorded-ne0.false) c.args.self.now.slots.lawful.sized

pub add-requires-in-Ok-clause-made : goal.add-requires-in-Ok-clause-made
add-requires-in-Ok-clause-made g c κs within = ready_made c.requires.ready.5 c.requires.first c.requires.last (volatile_by c.args.recorded c.if-recorded-ne0.false)

pub add-requires-in-Ok-clause-live : goal.add-requires-in-Ok-clause-live
add-requires-in-Ok-clause-live g c κs within = ready_live c.requires.ready.5 c.requires.first c.requires.last (volatile_by c.args.recorded c.if-recorded-ne0.false)

pub returns-in-Ok-clause-made : goal.returns-in-Ok-clause-made
returns-in-Ok-clause-made g c = λ start opening h all less e r since gains law making is.
    let old = c.args.self.now in
    let a = c.args.recorded in
    let caller = c.args.caller in
    let m = r.holds.model in
    let own = new_key m caller (new_id m caller a) a r.bytes in
    let after = (created m caller a r.bytes).store in
    let first = c.requires.first in
    let last = c.requires.last in
    let volatile = volatile_by a c.if-recorded-ne0.false in
    let id = c.add-in-Ok.ensures.id in
    let rest = c.add-in-Ok.ensures.rest in
    let empty : bytes_of c.wipe.new.self ≡ [] = ap (λ n. take n c.wipe.new.self.bytes) c.wipe.ensures.none in
    let agrees = c.add-in-Ok.ensures.fills m after all less own r.holds.slots gains (subst (λ n. Puts m after n (Some own)) (sym id) (next_puts r first last volatile))
    (subst (λ n. SlotHasKey (full_slot (old.found + old.ranked) (identified a n) (bytes_of c.wipe.new.self)) own) (sym id)
    (subst (λ (b : List ℕ). SlotHasKey (full_slot (old.found + old.ranked) (identified a (first_volatile caller + slice_index old.made caller)) b) own) (sym empty) (opaque_takes r first last volatile (opaque_by c.args.recorded c.if-recorded-ne1.false))))
    (subst (λ n. IsThereOrNew m n own) (sym id) (next_new r first last volatile)) in (
      subst (λ (s : Store _ _ _). StandsFor g.D.Disk g.A.Devices g.C.Admission (ranked_on s) start opening (h ++ e ∷ []) less) (sym rest)
          (makes_volatile r first last volatile g.met.D.Disk.only_now c.give.new.devices c.add-in-Ok.new.self.slots c.wipe.new.self less making law c.add-in-Ok.ensures.sized c.in-Ok.ensures.locations
          (taken_device r first last volatile g.met.D.Disk.only_now c.give.new.devices c.add-in-Ok.new.self.slots c.wipe.new.self less making law (is_taken r first last volatile (g.A.Devices.keys c.give.new.devices) c.as_slice-bytes.result.now c.as_slice-bytes.ensures.list c.in-Ok.ensures.given c.in-Ok.ensures.copied)) agrees
          (subst (λ (s : Store _ _ _). IsEntry g.D.Disk g.A.Devices g.C.Admission (ranked_on s) Plain e) rest is)),
      id ∙ sym (next_is r first last volatile),
    )

pub returns-in-Err-clause-unkept : goal.returns-in-Err-clause-unkept
returns-in-Err-clause-unkept g c = λ start opening h all less e r since gains law making is.
    let a = c.args.recorded in
    let caller = c.args.caller in
    let first = c.requires.first in
    let last = c.requires.last in
    let volatile = volatile_by a c.if-recorded-ne0.false in
    let ensures = c.in-Err.ensures in (
      fails_volatile r first last volatile g.met.D.Disk.only_now c.give.new.devices c.give_up.new.self c.args.self.now.buffer less making law (opaque_by c.args.recorded c.if-recorded-ne1.false) ensures.locations
          (is_either r first last volatile (g.A.Devices.keys c.give.new.devices) c.as_slice-bytes.result.now c.as_slice-bytes.ensures.list ensures.given ensures.copied) ensures.cause.failed (c.give_up.ensures.takes r.holds.model all less r.holds.slots gains) since is,
      (opaque_by c.args.recorded c.if-recorded-ne1.false),
    )
