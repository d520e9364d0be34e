use Rattle.store_core.proofs.{Common.last_store, Wiped.shows_free, Zeroed.stays_zeros, Zeroed.left_zeros, Freeing.freed_zeros}
use Rattle.store_core.proofs.store.Store.a_freed_cell_stays_zeros.Goals as goal

pub returns-clause-within : goal.returns-clause-within
returns-clause-within g c = λ turns cell lt free stays.
    stays_zeros g.D.Disk g.A.Devices g.C.Admission cell lt c.args.self.now turns free stays

pub returns-clause-zeros : goal.returns-clause-zeros
returns-clause-zeros g c = λ turns cell lt free stands tells stays.
    let first = c.args.self.now in
    left_zeros g.D.Disk g.A.Devices g.C.Admission cell lt first (last_store first turns)
    (λ image left. shows_free _ _ _ _ free (((stands.4.holds.file tells).stands.each image (g.met.D.Disk.only_now first.file.cells.disk image left)).each cell lt))
    (stays_zeros g.D.Disk g.A.Devices g.C.Admission cell lt first turns free stays)

pub returns-clause-history : goal.returns-clause-history
returns-clause-history g c = λ start opening h all s tells. let file = c.args.self.now.file.cells in freed_zeros g.D.Disk file.disk file.states start h (s.holds.freed tells)
