use Rattle.persistent_keys.proofs.Founding.{found_stands, some_found}
use Rattle.persistent_keys.proofs.file.KeyFile.open.Goals as goal

pub returns-in-Ok-clause-keys : goal.returns-in-Ok-clause-keys
returns-in-Ok-clause-keys g c =
    let d = g.D.Disk in
    found_stands d c.args.disk c.in-Ok.cells.disk c.in-Ok.cells.states c.in-Ok.ensures.opened

pub returns-in-Ok-clause-found : goal.returns-in-Ok-clause-found
returns-in-Ok-clause-found g c = some_found (g.D.Disk.contents c.args.disk) c.in-Ok.cells.states c.in-Ok.ensures.opened.found
