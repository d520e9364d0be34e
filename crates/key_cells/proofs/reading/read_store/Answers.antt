use Rattle.key_cells.proofs.{Common.arith, CellsRead.measured_as, Layouts.cells_few, Layouts.cells_fit, Layouts.cells_whole, Layouts.not_store, Layouts.store_cells, Layouts.store_told}
use Rattle.key_cells.proofs.reading.read_store.Goals as goal

pub returns-in_default-clause-cause : goal.returns-in_default-clause-cause
returns-in_default-clause-cause g c =
    let d = g.D.Disk in
    let disk = c.args.disk.now in
    not_store (d.contents disk) c.in-Ok.header c.args.size c.requires.enough (measured_as (d.contents disk) (d.size disk) c.args.size c.requires.size (g.met.D.Disk.measured disk)) c.in-Ok.ensures.bytes c.in_default.ensures

pub read_states-requires-clause-size : goal.read_states-requires-clause-size
read_states-requires-clause-size g c = rw c.cells.ensures (omega (arith, cells_fit c.in-Some.layout c.args.size c.in-Some.ensures.0, c.read_header.ensures.size, c.requires.size))

pub read_states-requires-clause-whole : goal.read_states-requires-clause-whole
read_states-requires-clause-whole g c = rw c.cells.ensures (cells_whole c.in-Some.layout)

pub read_states-requires-clause-few : goal.read_states-requires-clause-few
read_states-requires-clause-few g c = rw c.cells.ensures (cells_few c.in-Some.layout)

pub read_states-requires-clause-store : goal.read_states-requires-clause-store
read_states-requires-clause-store g c =
    let d = g.D.Disk in
    let disk = c.args.disk.now in
    let told = store_told (d.contents disk) c.in-Ok.header c.args.size c.in-Some.layout (measured_as (d.contents disk) (d.size disk) c.args.size c.requires.size (g.met.D.Disk.measured disk)) c.in-Ok.ensures.bytes c.in-Some.ensures.1 in
    rw c.read_header.ensures.calm.same (store_cells (d.contents disk) c.in-Some.layout c.cells.result c.cells.ensures told)

pub returns-clause-fits : goal.returns-clause-fits
returns-clause-fits g c = c.in-Some.ensures.0

pub returns-clause-store : goal.returns-clause-store
returns-clause-store g c =
    let d = g.D.Disk in
    let disk = c.args.disk.now in
    store_told (d.contents disk) c.in-Ok.header c.args.size c.in-Some.layout (measured_as (d.contents disk) (d.size disk) c.args.size c.requires.size (g.met.D.Disk.measured disk)) c.in-Ok.ensures.bytes c.in-Some.ensures.1
