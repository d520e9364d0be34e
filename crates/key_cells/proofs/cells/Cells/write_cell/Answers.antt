use Rattle.key_cells.proofs.{Common.arith, Common.length, Common.set, Images.settled_set, Steps.write_failed, Steps.write_done, Free.stays_free_set}
use Rattle.key_cells.proofs.cells.Cells.write_cell.Goals as goal

pub returns-in-Ok-clause-done : goal.returns-in-Ok-clause-done
returns-in-Ok-clause-done g c = rw c.set.ensures (λ from to count stands torn whole.
    let self = c.args.self.now in
    let e = c.write_through.ensures in
    write_done g.D.Disk self.disk c.write_through.new.disk c.args.at (length c.args.bytes.now) self.states (set self.states c.args.cell c.args.state) from to c.args.bytes.now
    stands count torn whole (g.met.D.Disk.read_is_image self.disk) e.tells c.in-Ok.ensures.written e.within)

pub returns-in-Err-clause-failed : goal.returns-in-Err-clause-failed
returns-in-Err-clause-failed g c = λ contents stands torn.
    let self = c.args.self.now in
    let e = c.write_through.ensures in
    write_failed g.D.Disk self.disk c.write_through.new.disk c.args.at (length c.args.bytes.now) self.states contents stands torn e.tells e.torn e.within

pub returns-in-Ok-clause-states : goal.returns-in-Ok-clause-states
returns-in-Ok-clause-states g c = rw c.set.ensures (λ alike. settled_set c.args.self.now.states c.args.cell c.args.state (omega (arith, c.requires.states)) alike)

pub returns-in-Ok-clause-free : goal.returns-in-Ok-clause-free
returns-in-Ok-clause-free g c = rw c.set.ensures (stays_free_set c.args.self.now.states c.args.cell c.args.state)
