use Rattle.store_core.proofs.{Common.ap, Common.arith, Common.InvalidHandle, Common.map_get, Common.Model, Common.None, Common.refl, Common.Some, Common.subst, Common.sym, Common.there_rows, Common.◌≡◌, Changing.counts_on, Kept.key_of_cell, Kept.no_key}
use Rattle.store_core.proofs.store.Store.purge.Goals as goal

pub returns-in-Some-clause-there : goal.returns-in-Some-clause-there
returns-in-Some-clause-there g c = λ start opening h all e s still is.
    let m = s.holds.model in
    let n = counts_on g.D.Disk g.A.Devices g.C.Admission g.met.D.Disk.only_now e s c.purge.new.self (c.purge.ensures.stays m all s.holds.slots) still is in
    (n.0, subst (λ (x : Model). there_rows (map_get x.keys c.args.id.0) ≡ None) (sym n.1) (ap there_rows (c.in-Some.ensures.key m all s.holds.slots).1))

pub returns-in-Some-find-clause-there : goal.returns-in-Some-find-clause-there
returns-in-Some-find-clause-there g c = λ start opening h all e s still is.
    let n = counts_on g.D.Disk g.A.Devices g.C.Admission g.met.D.Disk.only_now e s c.args.self.now.slots s.holds.slots still is in
    let first = c.in-Some-find.ensures in
    let sized = s.holds.directory.sized in
    let inside = first.within in
    let key = key_of_cell c.args.self.now.file.cells.states s.holds.model c.args.id.0 c.in-Some-find._cell s.holds.directory (omega arith) first.here in
    (n.0, subst (λ (x : Model). there_rows (map_get x.keys c.args.id.0) ≡ None) (sym n.1) (ap there_rows key.1))

pub returns-in-None-clause-missing : goal.returns-in-None-clause-missing
returns-in-None-clause-missing g c = (
  refl,
  λ start opening h all e s still is.
      let m = s.holds.model in
      let n = counts_on g.D.Disk g.A.Devices g.C.Admission g.met.D.Disk.only_now e s c.args.self.now.slots s.holds.slots still is in
      let none = no_key c.args.self.now.file.cells.states m c.args.id.0 s.holds.directory c.in-None.ensures (c.in_default.ensures.none m all s.holds.slots) in
      (n.0, subst (λ (x : Model). there_rows (map_get x.keys c.args.id.0) ≡ Some InvalidHandle) (sym n.1) (ap there_rows none)),
)
