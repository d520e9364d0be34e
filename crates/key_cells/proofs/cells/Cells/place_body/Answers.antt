use Rattle.key_cells.proofs.{Common.Created, Common.CreationFailed, Common.Doubtful, Common.Nothing, Common.Present, Common.inl, Common.inr, Entries.adds, Filling.but_first, Filling.filled, Moves.keeps_none, Moves.on_err}
use Rattle.key_cells.proofs.cells.Cells.place_body.Goals as goal

pub returns-in_err-fill-clause-failed : goal.returns-in_err-fill-clause-failed
returns-in_err-fill-clause-failed g c =
    let self = c.args.self.now in
    let mid = c.settle.new.self in
    let cell = c.in-Some.cell in
    let first = c.in-Some.ensures in
    on_err c.from_residual-in_err-fill.result (λ contents stands. inr (cell, first, filled g.D.Disk cell self mid c.fill.new.self c.requires.states first c.settle.ensures.free c.in_ok-settle.ensures.ok c.settle.ensures.keeps (g.met.D.Disk.read_is_image mid.disk) (Doubtful c.args.body.now) c.in_err-fill.ensures.failed contents stands))

pub returns-clause-created : goal.returns-clause-created
returns-clause-created g c =
    let self = c.args.self.now in
    let mid = c.settle.new.self in
    let cell = c.in-Some.cell in
    let first = c.in-Some.ensures in
    filled g.D.Disk cell self mid c.fill.new.self c.requires.states first c.settle.ensures.free c.in_ok-settle.ensures.ok c.settle.ensures.keeps (g.met.D.Disk.read_is_image mid.disk) (Present c.args.body.now) c.in_ok-fill.ensures.filled

pub returns-clause-entry : goal.returns-clause-entry
returns-clause-entry g c =
    let self = c.args.self.now in
    let new = c.fill.new.self in
    adds g.D.Disk g.met.D.Disk.only_now self.disk new.disk self.states new.states (Created c.in-Some.cell c.args.body.now) (returns-clause-created g c)

pub returns-in_err-fill-clause-free : goal.returns-in_err-fill-clause-free
returns-in_err-fill-clause-free g c =
    let self = c.args.self.now in
    let mid = c.settle.new.self in
    let cell = c.in-Some.cell in
    let first = c.in-Some.ensures in
    but_first g.D.Disk cell self mid c.fill.new.self c.requires.states first c.settle.ensures.free c.in_ok-settle.ensures.ok c.settle.ensures.keeps (g.met.D.Disk.read_is_image mid.disk) c.fill.ensures.others

pub returns-clause-free : goal.returns-clause-free
returns-clause-free g c =
    let self = c.args.self.now in
    let mid = c.settle.new.self in
    let cell = c.in-Some.cell in
    let first = c.in-Some.ensures in
    but_first g.D.Disk cell self mid c.fill.new.self c.requires.states first c.settle.ensures.free c.in_ok-settle.ensures.ok c.settle.ensures.keeps (g.met.D.Disk.read_is_image mid.disk) c.fill.ensures.others

pub returns-in_default-clause-failed_entry : goal.returns-in_default-clause-failed_entry
returns-in_default-clause-failed_entry g c =
    let self = c.args.self.now in
    inl (adds g.D.Disk g.met.D.Disk.only_now self.disk self.disk self.states self.states Nothing (keeps_none g.D.Disk self.disk self.states))

pub returns-in_err-settle-clause-failed_entry : goal.returns-in_err-settle-clause-failed_entry
returns-in_err-settle-clause-failed_entry g c = on_err c.from_residual.result (inl c.settle.ensures.entry)

pub returns-in_err-fill-clause-failed_entry : goal.returns-in_err-fill-clause-failed_entry
returns-in_err-fill-clause-failed_entry g c =
    let self = c.args.self.now in
    let mid = c.settle.new.self in
    let cell = c.in-Some.cell in
    let new = c.fill.new.self in
    let first = c.in-Some.ensures in
    on_err c.from_residual-in_err-fill.result (inr (
      cell,
      first,
      adds g.D.Disk g.met.D.Disk.only_now self.disk new.disk self.states new.states (CreationFailed cell c.args.body.now)
          (filled g.D.Disk cell self mid c.fill.new.self c.requires.states first c.settle.ensures.free c.in_ok-settle.ensures.ok c.settle.ensures.keeps (g.met.D.Disk.read_is_image mid.disk) (Doubtful c.args.body.now) c.in_err-fill.ensures.failed),
    ))
