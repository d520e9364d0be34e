use Rattle.store_core.proofs.Wiped.{shows_free}
use Rattle.store_core.proofs.store.Store.a_free_cell_is_zeros.Goals as goal

pub returns : goal.returns
returns g c = λ start opening h all s tells cell lt free image left. let f = s.holds.file tells in shows_free _ _ _ _ free ((f.stands.each image left).each cell lt)
