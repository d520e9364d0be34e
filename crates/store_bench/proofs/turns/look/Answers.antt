use Rattle.key_policy.specs.Uses.{use_refusal}
use Rattle.key_policy.specs.declared.key_use.KeyUse.TheVariants as wanted
use Rattle.store_core.specs.Prelude.{IsLent}
use Rattle.store_bench.proofs.Keepings.{lends, lends_not}
use Rattle.store_bench.proofs.turns.look.Goals as goal

pub returns-clause-lent : goal.returns-clause-lent
returns-clause-lent g c =
    let d = g.D.Disk in
    let v = g.A.Devices in
    let e = c.look.ensures in
    lends d v g.C.Admission c.args.store.now c.look.new.self e.size e.clear c.look.result c.args.id.0 (IsLent (use_refusal wanted.Export) c.args.id.0) e.lent

pub returns-clause-refused : goal.returns-clause-refused
returns-clause-refused g c =
    let d = g.D.Disk in
    let v = g.A.Devices in
    let e = c.look.ensures in
    lends_not d v g.C.Admission c.args.store.now c.look.new.self e.size e.clear c.look.result c.args.id.0 _ e.refused
