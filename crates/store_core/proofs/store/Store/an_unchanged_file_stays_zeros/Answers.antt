use Rattle.store_core.proofs.Zeroed.{untouched}
use Rattle.store_core.proofs.store.Store.an_unchanged_file_stays_zeros.Goals as goal

pub returns : goal.returns
returns g c = λ next same start opening h all s tells. untouched g.D.Disk c.args.self.now.file next.file same
