use Rattle.key_cells.specs.{Growth.HasOlderCells, Layout.older_size, Layout.store_size}
use Rattle.key_cells.proofs.{Stages.each_grown, Lengthening.each_same, Lengthening.each_then, Lengthening.first_within, Lengthening.lengthened_filled, Lengthening.more_within, Lengthening.sized, Lengthening.then_within, Lengthening.when_ok}
use Rattle.key_cells.proofs.growing.lengthen.Goals as goal

pub returns-in_err-extend-clause-crash : goal.returns-in_err-extend-clause-crash
returns-in_err-extend-clause-crash g c =
    each_grown older_size store_size _ _ _ (sized _ _ _ (g.met.D.Disk.measured c.args.disk.now) c.requires.size c.requires.low c.requires.high) c.requires.durable c.extend.ensures.crash

pub returns-in_err-extend-clause-within : goal.returns-in_err-extend-clause-within
returns-in_err-extend-clause-within g c =
    let each = each_grown older_size store_size _ _ _ (sized _ _ _ (g.met.D.Disk.measured c.args.disk.now) c.requires.size c.requires.low c.requires.high) c.requires.durable c.extend.ensures.crash in
    first_within HasOlderCells _ _ _ _ _ _ c.extend.ensures.time each

pub returns-in_err-fill_behind-clause-crash : goal.returns-in_err-fill_behind-clause-crash
returns-in_err-fill_behind-clause-crash g c =
    let each = each_grown older_size store_size _ _ _ (sized _ _ _ (g.met.D.Disk.measured c.args.disk.now) c.requires.size c.requires.low c.requires.high) c.requires.durable c.extend.ensures.crash in
    each_then HasOlderCells _ _ _ each c.fill_behind.ensures.crash

pub returns-in_err-fill_behind-clause-within : goal.returns-in_err-fill_behind-clause-within
returns-in_err-fill_behind-clause-within g c =
    let each = each_grown older_size store_size _ _ _ (sized _ _ _ (g.met.D.Disk.measured c.args.disk.now) c.requires.size c.requires.low c.requires.high) c.requires.durable c.extend.ensures.crash in
    then_within HasOlderCells _ _ _ _ _ _ _ _ c.extend.ensures.time each c.fill_behind.ensures.within

pub returns-clause-filled : goal.returns-clause-filled
returns-clause-filled g c =
    when_ok c.sync.result (lengthened_filled _ _ _ _ _ _ _ (g.met.D.Disk.measured c.args.disk.now) c.requires.size c.in_ok-extend.ensures.size c.extend.ensures.grown c.in_ok-fill_behind.ensures.filled c.sync.ensures.same)

pub returns-clause-crash : goal.returns-clause-crash
returns-clause-crash g c =
    let each = each_grown older_size store_size _ _ _ (sized _ _ _ (g.met.D.Disk.measured c.args.disk.now) c.requires.size c.requires.low c.requires.high) c.requires.durable c.extend.ensures.crash in
    each_same HasOlderCells _ _ _ (each_then HasOlderCells _ _ _ each c.fill_behind.ensures.crash) c.sync.ensures.crash

pub returns-clause-within : goal.returns-clause-within
returns-clause-within g c =
    let each = each_grown older_size store_size _ _ _ (sized _ _ _ (g.met.D.Disk.measured c.args.disk.now) c.requires.size c.requires.low c.requires.high) c.requires.durable c.extend.ensures.crash in
    more_within HasOlderCells _ _ _ _ _ _ _ _
    (then_within HasOlderCells _ _ _ _ _ _ _ _ c.extend.ensures.time each c.fill_behind.ensures.within)
    c.sync.ensures.time
    (each_same HasOlderCells _ _ _ (each_then HasOlderCells _ _ _ each c.fill_behind.ensures.crash) c.sync.ensures.crash)
