use Rattle.store_core.proofs.Common.{[], Agrees, ap, Buffer, bytes-buffer_of, bytes_of, Err, IsAboutToCreate, IsEntry, length, mark_unkept, Model, new_id, None, Ok, Option, option_map, Plain, ranked_on, RecordsStated, refl, Store, subst, sym, ◌++◌, ◌∙◌, ◌∷◌, ◌≡◌}
use Rattle.slot_table.specs.Lent.{Reading}
use Rattle.store_core.proofs.{Refusing.asks_for, Finishing.stated_ok, Finishing.within, Finishing.rebuffered, Finishing.since_stands, Finishing.is_making, Finishing.refused_at, Finishing.refuses}
use Rattle.store_core.proofs.store.Store.finish.Goals as goal

pub create-made-requires-clause-ready : goal.create-made-requires-clause-ready
create-made-requires-clause-ready g c = λ κs within_lives.
    let old = c.args.self.now in
    let caller = c.args.caller in
    let bytes = c.args.bytes.now in
    let leased : Option Reading = option_map (λ l. l.now) c.args.lease in
    let a = c.in-Ok.recorded in
    let own = c.requires.out in
    let e = asks_for 0 in
    let mid : Store _ _ _ = record old { buffer = c.fill_from.new.self } in
    let n = within g.D.Disk g.A.Devices g.C.Admission old c.fill_from.new.self own.0 own.1 own.2 own.3 e own.4 in
    let before = within g.D.Disk g.A.Devices g.C.Admission old old.buffer own.0 own.1 own.2 own.3 e own.4 in
    let records : RecordsStated leased caller c.args.attributes.now (length bytes) n.0.model (Ok a) =
    subst (λ (m : Model). RecordsStated leased caller c.args.attributes.now (length bytes) m (Ok a)) (before.1 ∙ sym n.1) (c.in-Ok.ensures.value own.0 own.1 own.2 own.3 e before.0 own.6) in
    let material : bytes_of c.fill_from.new.self ≡ bytes = ap (λ (b : Buffer). bytes_of b) c.fill_from.ensures ∙ bytes-buffer_of bytes in
    let r : IsAboutToCreate g.D.Disk g.A.Devices g.C.Admission mid caller a None own.0 own.1 own.2 own.3 e =
    record { holds = n.0; bytes = bytes; material = material; stated = c.args.attributes.now; decided = stated_ok leased caller c.args.attributes.now (length bytes) n.0.model a records } in
    (own.0, own.1, own.2, own.3, e, r, own.5)

pub returns-in-Ok-made-clause-made : goal.returns-in-Ok-made-clause-made
returns-in-Ok-made-clause-made g c = λ start opening h all less e s lent gains law creating is.
    let old = c.args.self.now in
    let caller = c.args.caller in
    let bytes = c.args.bytes.now in
    let leased : Option Reading = option_map (λ l. l.now) c.args.lease in
    let a = c.in-Ok.recorded in
    let decided = c.in-Ok.ensures.value in
    let mid : Store _ _ _ = record old { buffer = c.fill_from.new.self } in
    let n = within g.D.Disk g.A.Devices g.C.Admission old c.fill_from.new.self start opening h all e s in
    let before = within g.D.Disk g.A.Devices g.C.Admission old old.buffer start opening h all e s in
    let records : RecordsStated leased caller c.args.attributes.now (length bytes) n.0.model (Ok a) =
    subst (λ (m : Model). RecordsStated leased caller c.args.attributes.now (length bytes) m (Ok a)) (before.1 ∙ sym n.1) (decided start opening h all e before.0 lent) in
    let material : bytes_of c.fill_from.new.self ≡ bytes = ap (λ (b : Buffer). bytes_of b) c.fill_from.ensures ∙ bytes-buffer_of bytes in
    let r : IsAboutToCreate g.D.Disk g.A.Devices g.C.Admission mid caller a None start opening h all e =
    record { holds = n.0; bytes = bytes; material = material; stated = c.args.attributes.now; decided = stated_ok leased caller c.args.attributes.now (length bytes) n.0.model a records } in
    let making = is_making g.D.Disk g.A.Devices g.C.Admission old mid start h e caller (RecordsStated leased caller c.args.attributes.now (length bytes)) (λ m. bytes) n.0.model a bytes refl creating n.0.replayed records refl in
    let turn : IsEntry g.D.Disk g.A.Devices g.C.Admission (ranked_on c.create-made.new.self) Plain e = record { from_first = is.from_first; to_last = is.to_last; marked = is.marked; done = is.done; disk_faults = is.disk_faults; device_faults = is.device_faults } in
    let entered = c.in-Ok-made.ensures.made start opening h all less e r (since_stands g.D.Disk g.A.Devices g.C.Admission old c.fill_from.new.self start opening h all s) gains law making turn in (
      rebuffered g.D.Disk g.A.Devices g.C.Admission (ranked_on c.create-made.new.self) c.wipe.new.self start opening (h ++ e ∷ []) less entered.0,
      (a, subst (λ (m : Model). RecordsStated leased caller c.args.attributes.now (length bytes) m (Ok a)) n.1 records, entered.1 ∙ ap (λ (m : Model). new_id m caller a) n.1),
    )

pub returns-in-Err-made-clause-unmade : goal.returns-in-Err-made-clause-unmade
returns-in-Err-made-clause-unmade g c = λ start opening h all less e s lent gains law creating is.
    let old = c.args.self.now in
    let caller = c.args.caller in
    let bytes = c.args.bytes.now in
    let leased : Option Reading = option_map (λ l. l.now) c.args.lease in
    let a = c.in-Ok.recorded in
    let decided = c.in-Ok.ensures.value in
    let mid : Store _ _ _ = record old { buffer = c.fill_from.new.self } in
    let n = within g.D.Disk g.A.Devices g.C.Admission old c.fill_from.new.self start opening h all e s in
    let before = within g.D.Disk g.A.Devices g.C.Admission old old.buffer start opening h all e s in
    let records : RecordsStated leased caller c.args.attributes.now (length bytes) n.0.model (Ok a) =
    subst (λ (m : Model). RecordsStated leased caller c.args.attributes.now (length bytes) m (Ok a)) (before.1 ∙ sym n.1) (decided start opening h all e before.0 lent) in
    let material : bytes_of c.fill_from.new.self ≡ bytes = ap (λ (b : Buffer). bytes_of b) c.fill_from.ensures ∙ bytes-buffer_of bytes in
    let r : IsAboutToCreate g.D.Disk g.A.Devices g.C.Admission mid caller a None start opening h all e =
    record { holds = n.0; bytes = bytes; material = material; stated = c.args.attributes.now; decided = stated_ok leased caller c.args.attributes.now (length bytes) n.0.model a records } in
    let making = is_making g.D.Disk g.A.Devices g.C.Admission old mid start h e caller (RecordsStated leased caller c.args.attributes.now (length bytes)) (λ m. bytes) n.0.model a bytes refl creating n.0.replayed records refl in
    let turn : IsEntry g.D.Disk g.A.Devices g.C.Admission (ranked_on c.create-made.new.self) (mark_unkept c.in-Err-made.why) e = record { from_first = is.from_first; to_last = is.to_last; marked = is.marked; done = is.done; disk_faults = is.disk_faults; device_faults = is.device_faults } in
    let entered = c.in-Err-made.ensures.unkept start opening h all less e r (since_stands g.D.Disk g.A.Devices g.C.Admission old c.fill_from.new.self start opening h all s) gains law making turn in (
      rebuffered g.D.Disk g.A.Devices g.C.Admission (ranked_on c.create-made.new.self) c.wipe.new.self start opening (h ++ e ∷ []) less entered.0,
      (a, subst (λ (m : Model). RecordsStated leased caller c.args.attributes.now (length bytes) m (Ok a)) n.1 records, entered.1),
    )

pub returns-in-Err-clause-unmade : goal.returns-in-Err-clause-unmade
returns-in-Err-clause-unmade g c = λ start opening h all less e s lent gains law creating is.
    let old = c.args.self.now in
    let caller = c.args.caller in
    let bytes = c.args.bytes.now in
    let leased : Option Reading = option_map (λ l. l.now) c.args.lease in
    let status = c.in-Err.status in
    let n = within g.D.Disk g.A.Devices g.C.Admission old old.buffer start opening h all e s in
    let records = c.in-Err.ensures.value start opening h all e n.0 lent in (
      refuses g.D.Disk g.A.Devices g.C.Admission g.met.D.Disk.only_now old c.give_up.new.self start opening h all less e creating.keeps status n.0
          (refused_at g.D.Disk g.A.Devices g.C.Admission old start h e caller (RecordsStated leased caller c.args.attributes.now (length bytes)) (λ m. bytes) n.0.model status creating n.0.replayed records)
          (subst (λ (m : Model). Agrees c.give_up.new.self.table.slots m less) (sym n.1) (c.give_up.ensures.takes s.holds.model all less s.holds.slots gains)) law is,
      subst (λ (m : Model). RecordsStated leased caller c.args.attributes.now (length bytes) m (Err status)) n.1 records,
    )
