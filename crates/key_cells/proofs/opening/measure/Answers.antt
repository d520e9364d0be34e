use Rattle.key_cells.proofs.{Common.LeavesWhatIsRead, Common.List, Common.Option, Common.subst, Common.sym, Common.ℕ, Moves.on_ok, Opened.calm_both, Opened.calm_one, Opened.durable_still}
use Rattle.key_cells.proofs.opening.measure.Goals as goal

pub returns-clause-calm : goal.returns-clause-calm
returns-clause-calm g c =
    let d = g.D.Disk in
    let first = c.sync.ensures in
    let last = c.len.ensures in
    let synced = c.sync.new.self in
    calm_both d c.args.disk.now synced c.len.new.self (calm_one d c.args.disk.now synced first.same first.crash first.time first.cause.later) (calm_one d synced c.len.new.self last.same last.crash last.time last.cause.later)

pub returns-clause-durable : goal.returns-clause-durable
returns-clause-durable g c =
    let d = g.D.Disk in
    let synced = c.sync.new.self in
    let now = c.len.new.self in
    on_ok c.len.result (subst (λ (o : Option (List ℕ)). LeavesWhatIsRead o (d.may_leave now)) c.sync.ensures.same
    (durable_still d synced now (subst (λ (o : Option (List ℕ)). LeavesWhatIsRead o (d.may_leave synced)) (sym c.sync.ensures.same) c.in_ok-sync.ensures.durable) c.len.ensures.crash))
