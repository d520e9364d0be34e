use Rattle.store_core.proofs.Common.{arith, cell_state, Free, Leads, map_get, None, Plain, refl, Rose, Storage, subst, sym, Writing, ◌<◌, cell_count}
use Rattle.key_cells.proofs.{Counts.has_id_open, Free.open_not_free}
use Rattle.store_core.proofs.{Kept.key_of_cell, Kept.is_persistent, Destroyed.fewer_kept, Destroyed.rows_there, Destroyed.still_doubted, Destroyed.undestroyed_doubt, Sure.set_sure, DestroyTurn.destroys_kept, Zeroed.keys_put, Zeroed.freed, Forgotten.kept_forgotten}
use Rattle.persistent_keys.proofs.Leading as file
use Rattle.store_core.proofs.store.Store.remove_kept.Goals as goal

pub overflow_sub-self : goal.overflow_sub-self
overflow_sub-self g c =
    let s = c.requires.stands.4.holds in
    let sized = s.directory.sized in
    let there = c.requires.there.within in
    let k = key_of_cell c.args.self.now.file.cells.states s.model c.args.id.0 c.args.cell s.directory (omega arith) c.requires.there.here in
    let fewer = fewer_kept s.model c.args.id.0 k.0 k.1 s.sound k.2 in
    let was = s.kept in
    omega arith

pub returns-in-Ok-clause-destroyed : goal.returns-in-Ok-clause-destroyed
returns-in-Ok-clause-destroyed g c = λ start opening h all e s call is.
    let m = s.holds.model in
    let cells = c.args.self.now.file.cells.states in
    let ensures = c.in-Ok.ensures in
    let sized = s.holds.directory.sized in
    let there = c.requires.there.within in
    let within : c.args.cell < cell_count = omega arith in
    let key = key_of_cell c.args.self.now.file.cells.states m c.args.id.0 c.args.cell s.holds.directory within c.requires.there.here in (
      destroys_kept g.D.Disk g.A.Devices g.C.Admission g.met.D.Disk.only_now c.args.self.now start opening h all e c.args.id.0 call c.destroy-closed.new.self c.destroy.new.self Plain c.args.cell s
          (record {
            within = within;
            key = c.requires.there.here;
            sized = ensures.states;
            missing = ensures.missing;
            tells = ensures.tells;
            leads = λ keys keys' doubt own stands there put. ensures.destroyed keys keys' doubt stands put;
            frees = (
              ensures.free,
              c.args.cell,
              within,
              open_not_free (cell_state cells c.args.cell) (has_id_open c.args.id.0 (cell_state cells c.args.cell) c.requires.there.here),
              freed cells c.destroy-closed.new.self.cells.states m c.args.id.0 c.args.cell s.holds.directory within c.requires.there.here ensures.gone c.args.cell within c.requires.there.here,
            );
            settles = λ own doubt none. set_sure c.args.self.now.file.cells.states c.destroy-closed.new.self.cells.states c.args.cell Free refl ensures.gone;
          })
          c.destroy.ensures.forgets tt (λ service persistent. tt) is,
      rows_there c.args.id.0 (map_get m.keys c.args.id.0) key.0 key.1,
    )

pub returns-in-Err-clause-failed : goal.returns-in-Err-clause-failed
returns-in-Err-clause-failed g c = λ start opening h all e s call is.
    let m = s.holds.model in
    let old = c.args.self.now.file.cells in
    let new = c.destroy-closed.new.self.cells in
    let closed = c.in-Err.fault.closed_first in
    let ensures = c.in-Err.ensures in
    let sized = s.holds.directory.sized in
    let there = c.requires.there.within in
    let within : c.args.cell < cell_count = omega arith in
    let key = key_of_cell old.states m c.args.id.0 c.args.cell s.holds.directory within c.requires.there.here in (
      destroys_kept g.D.Disk g.A.Devices g.C.Admission g.met.D.Disk.only_now c.args.self.now start opening h all e c.args.id.0 call c.destroy-closed.new.self c.destroy.new.self (Storage (Writing closed)) c.args.cell s
          (record {
            within = within;
            key = c.requires.there.here;
            sized = ensures.states;
            missing = ensures.missing;
            tells = ensures.tells;
            leads = λ keys keys' doubt own stands there put. subst (Leads g.D.Disk old.disk new.disk old.states new.states keys doubt keys') (undestroyed_doubt closed own doubt)
                (ensures.failed keys keys' doubt own stands there put);
            frees = ensures.free;
            settles = λ own doubt none. absurd (still_doubted closed own doubt none);
          })
          c.destroy.ensures.forgets (subst (Rose (g.D.Disk.faults old.disk)) (sym is.disk_faults) ensures.cause.failed) (λ service persistent. persistent) is,
      is_persistent (map_get m.keys c.args.id.0) key.0 key.1 key.2,
    )

pub returns-in-Ok-clause-zeros : goal.returns-in-Ok-clause-zeros
returns-in-Ok-clause-zeros g c = λ keys doubt stands. (c.in-Ok.ensures.destroyed keys (keys_put keys c.args.id.0 None) doubt stands (λ other. refl)).zeros

pub returns-in-Err-clause-zeros : goal.returns-in-Err-clause-zeros
returns-in-Err-clause-zeros g c = λ keys doubt stands.
    let old = c.args.self.now.file.cells in
    let sized = c.requires.stands.4.holds.directory.sized in
    let there = c.requires.there.within in
    let k = file.key_of_cell g.D.Disk old.disk old.states keys doubt c.args.id.0 c.args.cell (omega arith) c.requires.there.here stands in
    (c.in-Err.ensures.failed keys (keys_put keys c.args.id.0 None) doubt k.0 stands k.1 (λ other. refl)).zeros

pub returns-in-Ok-clause-freed : goal.returns-in-Ok-clause-freed
returns-in-Ok-clause-freed g c =
    let s = c.requires.stands.4.holds in
    let sized = s.directory.sized in
    let there = c.requires.there.within in
    freed c.args.self.now.file.cells.states c.destroy-closed.new.self.cells.states s.model c.args.id.0 c.args.cell s.directory (omega arith) c.requires.there.here c.in-Ok.ensures.gone

pub returns-in-Ok-clause-forgotten : goal.returns-in-Ok-clause-forgotten
returns-in-Ok-clause-forgotten g c = λ i lt has.
    let s = c.requires.stands.4.holds in
    let old = c.args.self.now in
    let sized = s.directory.sized in
    let there = c.requires.there.within in
    kept_forgotten old.file.cells.states old.slots.table.slots s.model c.requires.stands.3 c.args.id.0 c.args.cell i (g.A.Devices.keys old.devices) s.directory s.sound s.slots (omega arith) c.requires.there.here lt has
