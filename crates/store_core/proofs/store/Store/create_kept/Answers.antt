use Rattle.store_core.proofs.Common.{ap, created, doubt_unmade, Err, full_slot, IsKeyOf, IsPut, Leads, List, new_id, new_key, refl, SlotHasKey, Some, stored, subst, sym, ℕ, ◌+◌, ◌∙◌}
use Rattle.persistent_keys.specs.{declared.file.MakeFault.MakeFault, declared.file.MakeFault.TheVariants.Disk}
use Rattle.store_core.proofs.{MakesKept.ready_key, MakesKept.ready_cells, MakesKept.ready_slots, MakesKept.ready_room, MakesKept.stated_puts, MakesKept.stated_new, MakesKept.stated_fills, MakesKept.ready_may, MakesKept.makes_kept, MakesKept.fails_kept, Added.stated_here, Zeroed.keys_put}
use Rattle.store_core.proofs.store.Store.create_kept.Goals as goal

pub make-requires-clause-key : goal.make-requires-clause-key
make-requires-clause-key g c =
    subst (IsKeyOf c.args.recorded) (sym c.as_slice.ensures.list)
    (ready_key c.requires.ready.5 c.requires.first c.requires.last c.requires.persistent c.read_numbers.ensures)

pub make-requires-clause-none : goal.make-requires-clause-none
make-requires-clause-none g c = ready_cells c.requires.ready.5 c.requires.first c.requires.last c.requires.persistent

pub fill-requires-clause-unknown : goal.fill-requires-clause-unknown
fill-requires-clause-unknown g c = ready_slots c.requires.ready.5 c.requires.first c.requires.last c.requires.persistent c.args.self.now.slots.lawful.sized

pub unreachable-requires : goal.unreachable-requires
unreachable-requires g c = ready_room c.requires.ready.5 c.requires.first c.requires.last c.requires.persistent (c.in-Err-Full.ensures.full.0 (ap Err c.in-Err-Full.field-0-is))

pub returns-in-Ok-clause-made : goal.returns-in-Ok-clause-made
returns-in-Ok-clause-made g c = λ start opening h all less e r since gains law making is.
    let old = c.args.self.now in
    let a = c.args.recorded in
    let caller = c.args.caller in
    let m = r.holds.model in
    let own = new_key m caller (new_id m caller a) a r.bytes in
    let ensures = c.in-Ok.ensures in
    let placed = ensures.placed in
    let first = c.requires.first in
    let last = c.requires.last in
    let lasts = c.requires.persistent in
    let list = c.as_slice-in-Ok.ensures.list in (
      makes_kept r first last lasts g.met.D.Disk.only_now c.make.new.self c.fill.new.self less making law
          (record {
            c = placed.0;
            without = placed.1;
            placed = placed.2;
            sized = ensures.states;
            free = ensures.free;
            tells = ensures.tells;
            leads = λ keys keys' doubt stands put. ensures.made keys keys' doubt stands (subst (λ (b : List ℕ). IsPut keys keys' a.id.0 (Some (stored (old.found + old.ranked) a b))) (sym c.as_slice.ensures.list) put);
          })
          (c.fill.ensures.takes m ((created m caller a r.bytes).store) all less own r.holds.slots gains
          (stated_puts r first last lasts g.met.D.Disk.only_now c.make.new.self c.fill.new.self less making law)
          (subst (λ (b : List ℕ). SlotHasKey (full_slot (old.found + old.ranked) a b) own) (sym list)
          (stated_fills r first last lasts g.met.D.Disk.only_now c.make.new.self c.fill.new.self less making law))
          (stated_new r first last lasts g.met.D.Disk.only_now c.make.new.self c.fill.new.self less making law))
          is,
      sym (stated_here m caller a r.bytes first last r.holds.sound (ready_may r) lasts),
    )

pub returns-clause-unkept : goal.returns-clause-unkept
returns-clause-unkept g c = rw c.in-Err-Disk.closed_first-is (λ start opening h all less e r since gains law making is.
    let old = c.args.self.now in
    let a = c.args.recorded in
    let ensures = c.in-Err-Disk.ensures in
    let caller = c.args.caller in
    let closed = c.in-Err-Disk.closed_first in
    let failed = ap Err (c.in-Err-Disk.field-0-is) in (
      fails_kept r c.requires.first c.requires.last c.requires.persistent g.met.D.Disk.only_now c.make.new.self c.give_up.new.self less making law closed
          (record {
            settled = ensures.unplaced;
            sized = ensures.states;
            free = ensures.free;
            tells = ensures.tells;
            leads = λ keys doubt stands. subst (λ (b : List ℕ). Leads g.D.Disk old.file.cells.disk c.make.new.self.cells.disk old.file.cells.states c.make.new.self.cells.states keys doubt keys (doubt_unmade (Disk closed) a b doubt)) c.as_slice.ensures.list
                (subst (λ (f : MakeFault). Leads g.D.Disk old.file.cells.disk c.make.new.self.cells.disk old.file.cells.states c.make.new.self.cells.states keys doubt keys (doubt_unmade f a c.as_slice.result.now doubt)) c.in-Err-Disk.field-0-is (ensures.failed keys doubt stands));
            unclosed = λ unsettled. ensures.unclosed (failed ∙ ap (λ b. Err (Disk b)) unsettled);
            rose = ensures.cause closed failed;
          })
          (c.give_up.ensures.takes r.holds.model all less r.holds.slots gains) since is,
      c.requires.persistent,
    ))

pub returns-in-Ok-clause-zeros : goal.returns-in-Ok-clause-zeros
returns-in-Ok-clause-zeros g c = λ keys doubt stands.
    (c.in-Ok.ensures.made keys (keys_put keys c.args.recorded.id.0 (Some (stored (c.args.self.now.found + c.args.self.now.ranked) c.args.recorded c.as_slice.result.now))) doubt stands (λ other. refl)).zeros

pub returns-clause-zeros : goal.returns-clause-zeros
returns-clause-zeros g c = λ keys doubt stands. (c.in-Err-Disk.ensures.failed keys doubt stands).zeros
