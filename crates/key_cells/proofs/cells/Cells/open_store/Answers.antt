use Rattle.key_cells.proofs.{Common.IfErr-weaker, Common.IfOk-weaker, Common.false, Common.sym, Common.true, Common.◌≡◌, CellsRead.measured_as, Opened.refused_calm, Opened.opened_after, Opened.refused_after, Opened.told_nothing, Opened.no_store_of}
use Rattle.key_cells.proofs.cells.Cells.open_store.Goals as goal

pub returns-in-Err-clause-refused : goal.returns-in-Err-clause-refused
returns-in-Err-clause-refused g c =
    refused_calm g.D.Disk c.args.disk c.measure.new.disk _ c.measure.ensures.calm (told_nothing (g.D.Disk.contents c.args.disk)) (λ is. c.in-Err.ensures.cause.failed) (λ is. absurd is)

pub returns-then-not-has_size-clause-refused : goal.returns-then-not-has_size-clause-refused
returns-then-not-has_size-clause-refused g c =
    let d = g.D.Disk in
    let now = c.measure.new.disk in
    refused_calm d c.args.disk now _ c.measure.ensures.calm
    (no_store_of (d.contents c.args.disk) c.in-Ok.size c.if-size-eq0.false (λ low high. let clash : false ≡ true = c.if-not-has_size.ensures.1 (low, high) in cc) (rw (← c.measure.ensures.calm.same) (measured_as (d.contents now) (d.size now) c.in-Ok.size (sym c.in-Ok.ensures.size) (g.met.D.Disk.measured now))))
    (λ is. absurd is) (λ is. c.in-Ok.ensures.durable)

pub returns-clause-opened : goal.returns-clause-opened
returns-clause-opened g c = IfOk-weaker c.read.result _ _ (λ cells o. opened_after g.D.Disk c.args.disk c.measure.new.disk cells.disk cells.states c.measure.ensures.calm o) c.read.ensures.opened

pub returns-clause-refused : goal.returns-clause-refused
returns-clause-refused g c = IfErr-weaker c.read.result _ _ (λ refused r. refused_after g.D.Disk c.args.disk c.measure.new.disk refused.0 refused.1 c.measure.ensures.calm r) c.read.ensures.refused

pub returns-then-size-eq0-clause-opened : goal.returns-then-size-eq0-clause-opened
returns-then-size-eq0-clause-opened g c = IfOk-weaker c.make.result _ _ (λ cells o. opened_after g.D.Disk c.args.disk c.measure.new.disk cells.disk cells.states c.measure.ensures.calm o) c.make.ensures.opened

pub returns-then-size-eq0-clause-refused : goal.returns-then-size-eq0-clause-refused
returns-then-size-eq0-clause-refused g c = IfErr-weaker c.make.result _ _ (λ refused r. refused_after g.D.Disk c.args.disk c.measure.new.disk refused.0 refused.1 c.measure.ensures.calm r) c.make.ensures.refused
