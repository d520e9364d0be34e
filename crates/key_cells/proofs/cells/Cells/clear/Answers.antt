use Rattle.key_cells.proofs.{Common.Disk, Common.ap, Common.arith, Common.contents_of, Common.frame_of, Common.is_some, Common.◌∙◌, Common.◌≡◌, Grown.current_stands, Grown.grown_spared, Grown.grown_stand, Grown.grown_within, Grown.older_told, Grown.spared, Grown.spared_within, Layouts.cells_few, Layouts.cells_fit, Opened.here, Opened.read_begins, Opened.read_opened, Opened.read_refused}
use Rattle.key_cells.specs.declared.layout.Layout.TheVariants.{Older}
use Rattle.key_cells.proofs.cells.Cells.clear.Goals as goal

pub clear_leftovers-requires-clause-fits : goal.clear_leftovers-requires-clause-fits
clear_leftovers-requires-clause-fits g c = rw c.cells.ensures (omega (arith, cells_fit c.args.layout c.args.size c.requires.fits, c.requires.size))

pub clear_leftovers-requires-clause-few : goal.clear_leftovers-requires-clause-few
clear_leftovers-requires-clause-few g c = rw c.cells.ensures (cells_few c.args.layout)

pub returns-in-Err-clause-refused : goal.returns-in-Err-clause-refused
returns-in-Err-clause-refused g c =
    let d = g.D.Disk in
    let r = c.requires in
    let self = c.args.self in
    let e = c.clear_leftovers.ensures in
    let mid = c.clear_leftovers.new.self.disk in
    let now = g.met.D.Disk.read_is_image mid in
    read_refused d self.disk c.args.layout self.states r.durable r.store r.read mid Disk (g.met.D.Disk.only_now self.disk) r.one (λ is. is) now e.tells e.cause.later (λ is. c.in-Err.ensures.cause.failed)
    (spared d self.disk mid c.args.layout self.states r.durable r.store r.read e.spares e.within e.tells now)
    (spared_within d self.disk mid c.args.layout self.states r.durable r.store r.read e.spares e.within e.tells now)

pub returns-in-Current-clause-opened : goal.returns-in-Current-clause-opened
returns-in-Current-clause-opened g c =
    let d = g.D.Disk in
    let r = c.requires in
    let self = c.args.self in
    let e = c.clear_leftovers.ensures in
    let o = c.in-Ok.ensures in
    let mid = c.clear_leftovers.new.self.disk in
    let states' = c.clear_leftovers.new.self.states in
    read_opened d self.disk c.args.layout self.states r.durable r.store r.read mid states' (g.met.D.Disk.only_now self.disk) r.beyond r.states o.ok r.one r.numbered r.named e.tells
    (λ image is.
    let store = here d self.disk c.args.layout self.states r.durable r.store r.read image is in
    current_stands d mid states' image (store.0, store.1 ∙ c.in-Current.is) (e.tells ∙ ap is_some is)
    (λ other left. o.sure (frame_of image) (contents_of image) (read_begins d self.disk c.args.layout self.states r.durable r.store r.read image is) other left))
    (spared_within d self.disk mid c.args.layout self.states r.durable r.store r.read e.spares e.within e.tells (g.met.D.Disk.read_is_image mid))

pub grow-requires-clause-layout : goal.grow-requires-clause-layout
grow-requires-clause-layout g c =
    let r = c.requires in
    let self = c.args.self in
    let e = c.clear_leftovers.ensures in
    let mid = c.clear_leftovers.new.self.disk in
    older_told g.D.Disk self.disk mid c.args.layout self.states r.durable r.store r.read e.spares e.within e.tells (g.met.D.Disk.read_is_image mid) c.in-Older.is

pub grow-requires-clause-durable : goal.grow-requires-clause-durable
grow-requires-clause-durable g c = c.in-Ok.ensures.durable c.requires.durable

pub returns-in-Ok-grow-clause-opened : goal.returns-in-Ok-grow-clause-opened
returns-in-Ok-grow-clause-opened g c =
    let d = g.D.Disk in
    let r = c.requires in
    let self = c.args.self in
    let e = c.clear_leftovers.ensures in
    let o = c.in-Ok.ensures in
    let mid = c.clear_leftovers.new.self.disk in
    let new = c.grow.new.disk in
    let states' = c.clear_leftovers.new.self.states in
    let now = g.met.D.Disk.read_is_image mid in
    let older : c.args.layout ≡ Older = c.in-Older.is in
    read_opened d self.disk c.args.layout self.states r.durable r.store r.read new states' (g.met.D.Disk.only_now self.disk) r.beyond r.states o.ok r.one r.numbered r.named (c.grow.ensures.tells ∙ e.tells)
    (grown_stand d self.disk mid c.args.layout self.states r.durable r.store r.read e.spares e.within e.tells now new older c.grow.ensures.crash c.grow.ensures.within states' o.sure o.ok r.beyond r.states c.grow.ensures.tells c.in-Ok-grow.ensures.grown)
    (grown_within d self.disk mid c.args.layout self.states r.durable r.store r.read e.spares e.within e.tells now new older c.grow.ensures.crash c.grow.ensures.within c.clear_leftovers.new.self.states c.in-Ok.ensures.sure c.in-Ok.ensures.ok r.beyond r.states)

pub returns-in-Err-grow-clause-refused : goal.returns-in-Err-grow-clause-refused
returns-in-Err-grow-clause-refused g c =
    let d = g.D.Disk in
    let r = c.requires in
    let self = c.args.self in
    let e = c.clear_leftovers.ensures in
    let mid = c.clear_leftovers.new.self.disk in
    let new = c.grow.new.disk in
    let now = g.met.D.Disk.read_is_image mid in
    let older : c.args.layout ≡ Older = c.in-Older.is in
    read_refused d self.disk c.args.layout self.states r.durable r.store r.read new c.in-Err-grow.fault (g.met.D.Disk.only_now self.disk) r.one c.in-Err-grow.ensures.fault (g.met.D.Disk.read_is_image new) (c.grow.ensures.tells ∙ e.tells)
    (omega (arith, e.cause.later, c.grow.ensures.later)) (λ is. omega (arith, e.cause.later, c.in-Err-grow.ensures.disk is))
    (grown_spared d self.disk mid c.args.layout self.states r.durable r.store r.read e.spares e.within e.tells now new older c.grow.ensures.crash c.grow.ensures.within c.clear_leftovers.new.self.states c.in-Ok.ensures.sure c.in-Ok.ensures.ok r.beyond r.states)
    (grown_within d self.disk mid c.args.layout self.states r.durable r.store r.read e.spares e.within e.tells now new older c.grow.ensures.crash c.grow.ensures.within c.clear_leftovers.new.self.states c.in-Ok.ensures.sure c.in-Ok.ensures.ok r.beyond r.states)
