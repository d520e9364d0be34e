use Rattle.key_cells.proofs.{Common.arith, Common.place, Common.replicate, Common.◌+◌, Common.◌≤◌, Clearing.torn_shut, Clearing.shut_cleared, Clearing.clearing_done, Clearing.clearing_failed, Clearing.clearing_size}
use Rattle.key_cells.proofs.cells.Cells.clear_shut.Goals as goal

pub returns-in-Ok-clause-clears : goal.returns-in-Ok-clause-clears
returns-in-Ok-clause-clears g c = rw c.set.ensures (λ frame first contents s.
    let self = c.args.self.now in
    let cell = c.args.cell in
    let r = c.requires in
    let e = c.write_at.ensures in
    let size = clearing_size g.D.Disk self.disk frame first self.states contents (g.met.D.Disk.measured self.disk) s in
    let fits : place cell + 1088 ≤ frame.size = omega (arith, r.fits, size) in
    clearing_done g.D.Disk self.disk c.write_at.new.self cell (c.place.result + 1) 1087 frame first self.states contents s e.crash e.time
    (torn_shut frame cell fits first contents c.place.result c.place.ensures (s.shut cell r.within r.state))
    (replicate 1087 0) r.states r.within c.in-Ok.ensures.written (shut_cleared frame cell fits self.states contents c.place.result c.place.ensures (omega (arith, r.states, r.within)) r.state))

pub returns-in-Err-clause-clears : goal.returns-in-Err-clause-clears
returns-in-Err-clause-clears g c = λ frame first contents s.
    let self = c.args.self.now in
    let cell = c.args.cell in
    let r = c.requires in
    let e = c.write_at.ensures in
    let size = clearing_size g.D.Disk self.disk frame first self.states contents (g.met.D.Disk.measured self.disk) s in
    let fits : place cell + 1088 ≤ frame.size = omega (arith, r.fits, size) in
    clearing_failed g.D.Disk self.disk c.write_at.new.self cell (c.place.result + 1) 1087 frame first self.states contents s e.crash e.time
    (torn_shut frame cell fits first contents c.place.result c.place.ensures (s.shut cell r.within r.state))
    c.in-Err.ensures.failed (torn_shut frame cell fits self.states contents c.place.result c.place.ensures r.state)
