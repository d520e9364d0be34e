use Rattle.store_core.proofs.{Common.course_of, Common.durable_keys, Sure.sure_cells}
use Rattle.store_core.proofs.store.Store.a_cell_has_a_key_or_zeros.Goals as goal

pub returns : goal.returns
returns g c = λ start opening h all s tells none image left cell lt.
    let file = c.args.self.now.file.cells in
    sure_cells g.D.Disk file.disk file.states (durable_keys s.holds.model) (course_of start h).doubt (s.holds.file tells) (s.holds.sure tells none) image left cell lt
