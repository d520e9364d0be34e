use Rattle.store_core.proofs.Common.{arith}
use Rattle.store_core.proofs.store.Store.a_crash_leaves_a_prefix.Goals as goal

pub returns-clause-opening : goal.returns-clause-opening
returns-clause-opening g c = λ start opening h all s tells image left. let f = (s.holds.promise tells).since_opening image left in (f.0, f.2, f.3)

pub returns-clause-done : goal.returns-clause-done
returns-clause-done g c = λ start opening h all s tells k lt image left. let f = (s.holds.promise tells).since_done k lt image left in let least = f.1 in (f.0, omega arith, f.2, f.3)
