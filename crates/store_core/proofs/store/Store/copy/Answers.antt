use Rattle.store_core.proofs.Common.{[], ap, buffer_of, bytes_of, Copy, course_of, durable_keys, Enters, Entry, inl, IsAboutToCreate, IsEntry, IsOut, IsTold, IsUnkept, Key, last_counts, mark_unkept, Model, new_id, OnStore, Option, Plain, ranked_on, recorded_copy, refl, replay, slot_at, Store, subst, sym, ℕ, ◌++◌, ◌∙◌, ◌∷◌, ◌≡◌}
use Rattle.store_core.proofs.{Changing.retold, Holding.has_model, Holding.with_buffer, Refusing.asks_for, Finishing.rebuffered, Finishing.refuses, Finishing.since_later, CopyTurn.reads_source, CopyTurn.keeps, CopyTurn.refused_here, CopyTurn.material_of, CopyTurn.ready, CopyTurn.making, CopyTurn.decided_here, CopyTurn.either, CopyTurn.uncopied, Ending.copy_ends, Ending.copy_empties}
use Rattle.store_core.proofs.Zeroed.{read_first}
use Rattle.store_core.proofs.store.Store.copy.Goals as goal

pub returns-in-Ok-made-clause-made : goal.returns-in-Ok-made-clause-made
returns-in-Ok-made-clause-made g c = λ start opening h all less e s gains law by call is.
    let old = c.args.self.now in
    let mid = c.bring.new.self in
    let caller = c.args.caller in
    let source = c.args.source.0 in
    let stated = c.args.attributes.now in
    let slot = slot_at mid.slots.table.slots c.in-Ok.slot in
    let brought = c.in-Ok.ensures.found start opening h all e s (λ k. reads_source e caller source stated by call (replay start h)) in
    let n = brought.0 in
    let key = brought.1.0 in
    let there = brought.1.1 in
    let has = brought.1.2 in
    let a = c.in-Ok-decide_copy.recorded in
    let decided = c.in-Ok-decide_copy.ensures.value start opening h all e n source key there has in
    let buffer = c.fill_from.new.self in
    let full : buffer ≡ buffer_of (bytes_of slot.buffer) = c.fill_from.ensures ∙ ap buffer_of c.bytes.ensures.list in
    let filled : Store _ _ _ = record mid { buffer = buffer } in
    let new = ranked_on c.create-made.new.self in
    let held : Option ℕ = material_of e caller source stated by call g.D.Disk g.A.Devices g.C.Admission mid start opening h all n slot key there has a decided buffer full in
    let enters = subst (λ (o : Option ℕ). Enters g.D.Disk g.A.Devices g.C.Admission filled new caller a o (c.args.filling.slot, 0) Plain (λ m. c.in-Ok-made.id.0 ≡ new_id m caller a)) c.held_number-held.ensures c.in-Ok-made.ensures.made in
    let turn : IsEntry g.D.Disk g.A.Devices g.C.Admission new Plain e = record { from_first = is.from_first; to_last = is.to_last; marked = is.marked; done = is.done; disk_faults = is.disk_faults; device_faults = is.device_faults } in
    let entered = enters start opening h all less e (ready e caller source stated by call g.D.Disk g.A.Devices g.C.Admission mid start opening h all n slot key there has a decided buffer full) (since_later g.D.Disk g.A.Devices g.C.Admission old filled (last_counts opening.counts h) s.counts c.in-Ok.ensures.later c.in-Ok.ensures.devices) gains law (making e caller source stated by call g.D.Disk g.A.Devices g.C.Admission mid start opening h all n slot key there has a decided buffer full) turn in
    let tells = c.create-made.ensures.tells in (
      rebuffered g.D.Disk g.A.Devices g.C.Admission new c.wipe.new.self start opening (h ++ e ∷ []) less entered.0,
      has_model g.D.Disk g.A.Devices g.C.Admission n (retold (g.D.Disk.contents mid.file.cells.disk) (g.D.Disk.contents c.create-made.new.self.file.cells.disk) start (h ++ e ∷ []) tells) (a, sym (decided_here e caller source stated by call g.D.Disk g.A.Devices g.C.Admission mid start opening h all n slot key there has a decided buffer full), entered.1 ∙ ap (λ (m : Model). new_id m caller a) (with_buffer g.D.Disk g.A.Devices g.C.Admission (IsTold (g.D.Disk.contents mid.file.cells.disk) start (h ++ e ∷ [])) mid buffer start opening h all inl n).1),
    )

pub returns-in-Err-made-clause-uncopied : goal.returns-in-Err-made-clause-uncopied
returns-in-Err-made-clause-uncopied g c = λ start opening h all less e s gains law by call is.
    let old = c.args.self.now in
    let mid = c.bring.new.self in
    let caller = c.args.caller in
    let source = c.args.source.0 in
    let stated = c.args.attributes.now in
    let slot = slot_at mid.slots.table.slots c.in-Ok.slot in
    let brought = c.in-Ok.ensures.found start opening h all e s (λ k. reads_source e caller source stated by call (replay start h)) in
    let n = brought.0 in
    let key = brought.1.0 in
    let there = brought.1.1 in
    let has = brought.1.2 in
    let a = c.in-Ok-decide_copy.recorded in
    let decided = c.in-Ok-decide_copy.ensures.value start opening h all e n source key there has in
    let buffer = c.fill_from.new.self in
    let full : buffer ≡ buffer_of (bytes_of slot.buffer) = c.fill_from.ensures ∙ ap buffer_of c.bytes.ensures.list in
    let filled : Store _ _ _ = record mid { buffer = buffer } in
    let new = ranked_on c.create-made.new.self in
    let held : Option ℕ = material_of e caller source stated by call g.D.Disk g.A.Devices g.C.Admission mid start opening h all n slot key there has a decided buffer full in
    let enters = subst (λ (o : Option ℕ). Enters g.D.Disk g.A.Devices g.C.Admission filled new caller a o (c.args.filling.slot, 0) (mark_unkept c.in-Err-made.why) (λ m. IsUnkept a c.in-Err-made.why)) c.held_number-held.ensures c.in-Err-made.ensures.unkept in
    let turn : IsEntry g.D.Disk g.A.Devices g.C.Admission new (mark_unkept c.in-Err-made.why) e = record { from_first = is.from_first; to_last = is.to_last; marked = is.marked; done = is.done; disk_faults = is.disk_faults; device_faults = is.device_faults } in
    let entered = enters start opening h all less e (ready e caller source stated by call g.D.Disk g.A.Devices g.C.Admission mid start opening h all n slot key there has a decided buffer full) (since_later g.D.Disk g.A.Devices g.C.Admission old filled (last_counts opening.counts h) s.counts c.in-Ok.ensures.later c.in-Ok.ensures.devices) gains law (making e caller source stated by call g.D.Disk g.A.Devices g.C.Admission mid start opening h all n slot key there has a decided buffer full) turn in
    let tells = c.create-made.ensures.tells in (
      rebuffered g.D.Disk g.A.Devices g.C.Admission new c.wipe.new.self start opening (h ++ e ∷ []) less entered.0,
      has_model g.D.Disk g.A.Devices g.C.Admission n (retold (g.D.Disk.contents mid.file.cells.disk) (g.D.Disk.contents c.create-made.new.self.file.cells.disk) start (h ++ e ∷ []) tells) (a, sym (decided_here e caller source stated by call g.D.Disk g.A.Devices g.C.Admission mid start opening h all n slot key there has a decided buffer full), entered.1),
    )

pub returns-in-Err-decide_copy-clause-uncopied : goal.returns-in-Err-decide_copy-clause-uncopied
returns-in-Err-decide_copy-clause-uncopied g c = λ start opening h all less e s gains law by call is.
    let old = c.args.self.now in
    let mid = c.bring.new.self in
    let caller = c.args.caller in
    let source = c.args.source.0 in
    let stated = c.args.attributes.now in
    let slot = slot_at mid.slots.table.slots c.in-Ok.slot in
    let brought = c.in-Ok.ensures.found start opening h all e s (λ k. reads_source e caller source stated by call (replay start h)) in
    let n = brought.0 in
    let there = brought.1.1 in
    let status = c.in-Err-decide_copy.status in
    let decided = ap (λ (o : Option Key). recorded_copy n.model caller o stated) there ∙ sym (c.in-Err-decide_copy.ensures.value start opening h all e n source brought.1.0 there brought.1.2) in (
      refuses g.D.Disk g.A.Devices g.C.Admission g.met.D.Disk.only_now mid c.give_up-in-Err-decide_copy.new.self start opening h all less e (keeps e caller source stated by call) status n (refused_here e caller source stated by call g.D.Disk g.A.Devices g.C.Admission mid start opening h all n status decided)
          (c.give_up-in-Err-decide_copy.ensures.takes n.model all less n.slots gains) law is,
      has_model g.D.Disk g.A.Devices g.C.Admission n (λ k. k) (sym decided),
    )

pub returns-in-Err-clause-uncopied : goal.returns-in-Err-clause-uncopied
returns-in-Err-clause-uncopied g c = λ start opening h all less e s gains law by call is.
    let source = c.args.source.0 in
    let b = c.in-Err.ensures in
    let reads = reads_source e c.args.caller source c.args.attributes.now by call (replay start h) in
    uncopied g.D.Disk g.A.Devices g.C.Admission g.met.D.Disk.only_now c.args.self.now c.bring.new.self c.give_up.new.self start opening h all less e c.args.caller source c.args.attributes.now by call s (λ m agrees. c.give_up.ensures.takes m all less agrees gains) law c.in-Err.why
    (λ why. b.missing why start opening h all e s (λ k. reads)) (λ why. b.unread why start opening h all e s (λ k. reads)) b.disk b.corrupt is

pub give_up-requires : goal.give_up-requires
give_up-requires g c =
    let own = c.requires.out in
    let e = asks_for c.args.source.0 in
    let b = c.in-Err.ensures in
    either c.in-Err.why (IsOut c.bring.new.self.slots.table.slots (c.args.filling.slot, 0))
    (λ why. let n = (b.missing why own.0 own.1 own.2 own.3 e own.4 (λ k. refl)).0 in record { store = n.model; all = own.3; agrees = n.slots; out = own.5 })
    (λ why. let n = (b.unread why own.0 own.1 own.2 own.3 e own.4 (λ k. refl)).0 in record { store = n.model; all = own.3; agrees = n.slots; out = own.5 })

pub give_up-requires-in-Err-decide_copy : goal.give_up-requires-in-Err-decide_copy
give_up-requires-in-Err-decide_copy g c =
    let own = c.requires.out in
    let n = (c.in-Ok.ensures.found own.0 own.1 own.2 own.3 (asks_for c.args.source.0) own.4 (λ k. refl)).0 in
    record { store = n.model; all = own.3; agrees = n.slots; out = own.5 }

pub create-made-requires-clause-ready : goal.create-made-requires-clause-ready
create-made-requires-clause-ready g c = λ κs lives.
    let old = c.args.self.now in
    let mid = c.bring.new.self in
    let source = c.args.source.0 in
    let caller = c.args.caller in
    let stated = c.args.attributes.now in
    let own = c.requires.out in
    let e : Entry = record { caller = caller; call = OnStore (Copy source stated); mark = Plain; done = 0; faults = 0; device_faults = 0 } in
    let slot = slot_at mid.slots.table.slots c.in-Ok.slot in
    let brought = c.in-Ok.ensures.found own.0 own.1 own.2 own.3 e own.4 (λ k. refl) in
    let n = brought.0 in
    let key = brought.1.0 in
    let there = brought.1.1 in
    let has = brought.1.2 in
    let a = c.in-Ok-decide_copy.recorded in
    let buffer = c.fill_from.new.self in
    let full : buffer ≡ buffer_of (bytes_of slot.buffer) = c.fill_from.ensures ∙ ap buffer_of c.bytes.ensures.list in
    let r = subst (λ (o : Option ℕ). IsAboutToCreate g.D.Disk g.A.Devices g.C.Admission (record mid { buffer = buffer }) caller a o own.0 own.1 own.2 own.3 e) (sym c.held_number-held.ensures)
    (ready e caller source stated refl refl g.D.Disk g.A.Devices g.C.Admission mid own.0 own.1 own.2 own.3 n slot key there has a (c.in-Ok-decide_copy.ensures.value own.0 own.1 own.2 own.3 e n source key there has) buffer full) in
    (own.0, own.1, own.2, own.3, e, r, own.5)

pub returns-in-Ok-made-clause-wipes : goal.returns-in-Ok-made-clause-wipes
returns-in-Ok-made-clause-wipes g c =
    copy_ends c.args.self.now.slots.table.slots c.bring.new.self.slots.table.slots c.create-made.new.self.slots.table.slots c.args.filling.slot c.bring.ensures.wipes c.create-made.ensures.wipes

pub returns-in-Err-made-clause-wipes : goal.returns-in-Err-made-clause-wipes
returns-in-Err-made-clause-wipes g c =
    copy_ends c.args.self.now.slots.table.slots c.bring.new.self.slots.table.slots c.create-made.new.self.slots.table.slots c.args.filling.slot c.bring.ensures.wipes c.create-made.ensures.wipes

pub returns-in-Err-decide_copy-clause-wipes : goal.returns-in-Err-decide_copy-clause-wipes
returns-in-Err-decide_copy-clause-wipes g c =
    copy_ends c.args.self.now.slots.table.slots c.bring.new.self.slots.table.slots c.give_up-in-Err-decide_copy.new.self.table.slots c.args.filling.slot c.bring.ensures.wipes c.give_up-in-Err-decide_copy.ensures.wipes

pub returns-in-Err-clause-wipes : goal.returns-in-Err-clause-wipes
returns-in-Err-clause-wipes g c =
    copy_ends c.args.self.now.slots.table.slots c.bring.new.self.slots.table.slots c.give_up.new.self.table.slots c.args.filling.slot c.bring.ensures.wipes c.give_up.ensures.wipes

pub returns-in-Ok-made-clause-zeros : goal.returns-in-Ok-made-clause-zeros
returns-in-Ok-made-clause-zeros g c = λ start opening h all s tells. read_first g.D.Disk c.args.self.now.file c.bring.new.self.file c.create-made.new.self.file c.bring.ensures.directory c.bring.ensures.keeps c.create-made.ensures.zeros (durable_keys s.holds.model) (course_of start h).doubt (s.holds.file tells)

pub returns-in-Err-made-clause-zeros : goal.returns-in-Err-made-clause-zeros
returns-in-Err-made-clause-zeros g c = λ start opening h all s tells. read_first g.D.Disk c.args.self.now.file c.bring.new.self.file c.create-made.new.self.file c.bring.ensures.directory c.bring.ensures.keeps c.create-made.ensures.zeros (durable_keys s.holds.model) (course_of start h).doubt (s.holds.file tells)

pub returns-in-Err-clause-unread : goal.returns-in-Err-clause-unread
returns-in-Err-clause-unread g c =
    copy_empties c.args.self.now.slots.table.slots c.bring.new.self.slots.table.slots c.give_up.new.self.table c.args.filling.slot c.give_up.new.self.lawful c.in-Err.ensures.emptied c.give_up.ensures.wipes c.give_up.ensures.emptied

pub returns-in-Err-decide_copy-clause-zeros : goal.returns-in-Err-decide_copy-clause-zeros
returns-in-Err-decide_copy-clause-zeros g c = λ start opening h all s tells. (c.bring.ensures.keeps (durable_keys s.holds.model) (course_of start h).doubt (s.holds.file tells)).zeros

pub returns-in-Err-clause-zeros : goal.returns-in-Err-clause-zeros
returns-in-Err-clause-zeros g c = λ start opening h all s tells. (c.bring.ensures.keeps (durable_keys s.holds.model) (course_of start h).doubt (s.holds.file tells)).zeros
