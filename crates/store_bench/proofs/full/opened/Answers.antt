use Rattle.std.proofs.Common.{subst, sym}
use Rattle.std.specs.Ordering.{nat_cmp}
use Rattle.std.specs.FinMap as map
use Rattle.driver_dispatch.specs.Calls.{Lacks}
use Rattle.store_bench.proofs.full.opened.Goals as goal

pub open-requires-clause-empty : goal.open-requires-clause-empty
open-requires-clause-empty g c κs within handle = subst (λ held. Lacks held handle) (sym c.requires) (map.get-empty nat_cmp handle)
