use Rattle.std.proofs.Common.{[], arith}
use Rattle.store_core.specs.Prelude.{opening_of}
use Rattle.store_bench.proofs.keeper.Keeper.open.Goals as goal

pub invariant_of-result : goal.invariant_of-result
invariant_of-result g c =
    let d = g.D.Disk in
    let v = g.A.Devices in
    let e = c.in-Ok-open.ensures in
    let store = c.in-Ok-open.store in (
      record {
        start = e.starts.0;
        opening = opening_of d v g.C.Admission store.opened;
        h = [];
        stands = e.stands e.starts.0 16 e.starts.1 (omega arith);
        sized = e.size;
        clear = e.clear;
      },
      c.in-Ok.ensures,
    )
