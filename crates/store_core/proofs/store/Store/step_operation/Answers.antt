use Rattle.store_core.proofs.{Common.false≢true, Common.HasNumber, Common.Model, Common.refl, Common.subst, Common.sym, Changing.counts_on}
use Rattle.store_core.proofs.store.Store.step_operation.Goals as goal

pub is_alive-requires : goal.is_alive-requires
is_alive-requires g c = let s = c.requires.out.4.holds in record { store = s.model; all = c.requires.out.3; agrees = s.slots; out = c.requires.out.5 }

pub returns-then-is_alive-clause-adds : goal.returns-then-is_alive-clause-adds
returns-then-is_alive-clause-adds g c = λ start opening h all e s still is.
    (counts_on g.D.Disk g.A.Devices g.C.Admission g.met.D.Disk.only_now e s c.args.self.now.slots s.holds.slots still is).0

pub returns-else-is_alive-clause-adds : goal.returns-else-is_alive-clause-adds
returns-else-is_alive-clause-adds g c = λ start opening h all e s still is.
    (counts_on g.D.Disk g.A.Devices g.C.Admission g.met.D.Disk.only_now e s c.args.self.now.slots s.holds.slots still is).0

pub returns-then-is_alive-clause-alive : goal.returns-then-is_alive-clause-alive
returns-then-is_alive-clause-alive g c = λ start opening h all e s out still is.
    let n = counts_on g.D.Disk g.A.Devices g.C.Admission g.met.D.Disk.only_now e s c.args.self.now.slots s.holds.slots still is in
    (n.0, subst (λ (m : Model). HasNumber m c.args.lease.now.creation) (sym n.1) ((c.if-is_alive.ensures s.holds.model all s.holds.slots out).0 refl))

pub returns-else-is_alive-clause-gone : goal.returns-else-is_alive-clause-gone
returns-else-is_alive-clause-gone g c = λ start opening h all e s out still is.
    let n = counts_on g.D.Disk g.A.Devices g.C.Admission g.met.D.Disk.only_now e s c.args.self.now.slots s.holds.slots still is in
    (n.0, subst (λ (m : Model). HasNumber m c.args.lease.now.creation → ⊥) (sym n.1) (λ has. false≢true ((c.if-is_alive.ensures s.holds.model all s.holds.slots out).1 has)))
