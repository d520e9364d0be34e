use Rattle.key_cells.proofs.Marking.{front_each, front_within, long_enough, marked_current, marked_each, marked_within}
use Rattle.key_cells.proofs.growing.write_layout.Goals as goal

pub returns-in_err-lengthen-clause-crash : goal.returns-in_err-lengthen-clause-crash
returns-in_err-lengthen-clause-crash g c = front_each _ _ c.requires.layout c.lengthen.ensures.crash

pub returns-in_err-lengthen-clause-within : goal.returns-in_err-lengthen-clause-within
returns-in_err-lengthen-clause-within g c = front_within _ _ _ _ _ c.requires.layout c.lengthen.ensures.within

pub returns-clause-grown : goal.returns-clause-grown
returns-clause-grown g c =
    let low = long_enough _ _ _ (g.met.D.Disk.measured c.args.disk.now) c.requires.size c.requires.low in
    marked_current _ _ _ c.write_through.result low c.in_ok-lengthen.ensures.filled c.write_through.ensures.written

pub returns-clause-crash : goal.returns-clause-crash
returns-clause-crash g c =
    let low = long_enough _ _ _ (g.met.D.Disk.measured c.args.disk.now) c.requires.size c.requires.low in
    marked_each _ _ _ _ low c.in_ok-lengthen.ensures.filled c.in_ok-lengthen.ensures.durable c.write_through.ensures.torn

pub returns-clause-within : goal.returns-clause-within
returns-clause-within g c =
    let low = long_enough _ _ _ (g.met.D.Disk.measured c.args.disk.now) c.requires.size c.requires.low in
    marked_within _ _ _ _ _ _ _ _ _ c.requires.layout low c.in_ok-lengthen.ensures.filled c.in_ok-lengthen.ensures.durable c.lengthen.ensures.within c.write_through.ensures.within
