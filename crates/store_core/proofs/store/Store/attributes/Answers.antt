use Rattle.store_core.proofs.{Common.HasAttributes, Common.refl, Common.sym, Common.there_rows, Common.◌∙◌, Refusing.ends_found, Refusing.ends_unread, Missing.is_missing_why}
use Rattle.store_core.proofs.store.Store.attributes.Goals as goal

pub returns-in-Ok-clause-known : goal.returns-in-Ok-clause-known
returns-in-Ok-clause-known g c = λ start opening h all e s is turn.
    let n = c.in-Ok.ensures.found start opening h all e s is.reads in
    let k = n.1 in
    ends_found g.D.Disk g.A.Devices g.C.Admission g.met.D.Disk.only_now c.args.self.now c.bring-brought.new.self start opening h all e c.args.id.0
    c.bring-brought.new.self.slots all (HasAttributes c.args.id.0 _) is n.0 (k.0, k.1, sym k.2.attributes ∙ sym c.attributes.ensures) n.0.slots n.0.holdings turn

pub returns-in-Err-clause-refused : goal.returns-in-Err-clause-refused
returns-in-Err-clause-refused g c = rw c.status.ensures (λ start opening h all e s is turn.
    let b = c.in-Err.ensures in
    ends_unread g.D.Disk g.A.Devices g.C.Admission g.met.D.Disk.only_now c.args.self.now c.bring-brought.new.self start opening h all e c.args.id.0
    there_rows c.in-Err.unread refl b.same s is (λ why. b.missing why start opening h all e s is.reads) (λ why. b.unread why start opening h all e s is.reads) b.disk b.corrupt turn)

pub returns-in-Err-clause-unmoved : goal.returns-in-Err-clause-unmoved
returns-in-Err-clause-unmoved g c = λ missing. c.in-Err.ensures.unmoved (is_missing_why c.in-Err.unread (sym c.status.ensures ∙ missing))
