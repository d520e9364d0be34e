use Rattle.persistent_keys.proofs.{Common.Err, Common.ap, Common.arith, Common.body_of, Common.refl, Common.◌∙◌, Directory.free_but_first, Directory.full_is_sure, Directory.full_of_settled, Directory.first_of_settled, Directory.placed_after, Leading.keeps_leads, Leading.settled_leads, Leading.made_leads, Leading.unmade_leads, Leading.no_key_in}
use Rattle.persistent_keys.proofs.file.KeyFile.make.Goals as goal

pub returns-in-Err-clause-failed : goal.returns-in-Err-clause-failed
returns-in-Err-clause-failed g c = λ keys doubt s.
    let d = g.D.Disk in
    keeps_leads d _ _ _ _ keys doubt c.in-Err.ensures.states c.in-Err.ensures.keeps s

pub returns-in-Ok-create-clause-made : goal.returns-in-Ok-create-clause-made
returns-in-Ok-create-clause-made g c = λ keys keys' doubt s put.
    let d = g.D.Disk in
    let e = c.in-Ok-create.ensures in
    let a = c.args.attributes.now in
    let bytes = c.args.bytes.now in
    let none = no_key_in d _ _ keys doubt a.id.0 c.requires.none s in
    made_leads d _ _ _ _ keys doubt s c.in-Ok.ensures.ok c.in-Ok.ensures.keeps c.in-Ok.ensures.free _ _ keys' c.in-Ok-create._cell c.args.creation a bytes (body_of a bytes) (omega (arith, e.place.within, c.settle.ensures.count)) e.place.here e.ok
    (record { is_key = c.requires.key; spelled = refl }) none put e.created

pub returns-in-Err-Full-clause-failed : goal.returns-in-Err-Full-clause-failed
returns-in-Err-Full-clause-failed g c = λ keys doubt s.
    let d = g.D.Disk in
    let n = c.in-Err-Full.ensures.nothing (ap Err c.in-Err-Full.field-0-is) in
    rw (n.0, n.1) (settled_leads d _ _ _ _ keys doubt s c.in-Ok.ensures.ok c.in-Ok.ensures.keeps c.in-Ok.ensures.free)

pub returns-in-Err-Disk-clause-failed : goal.returns-in-Err-Disk-clause-failed
returns-in-Err-Disk-clause-failed g c = λ keys doubt s.
    let d = g.D.Disk in
    let e = c.in-Err-Disk.ensures in
    let a = c.args.attributes.now in
    let bytes = c.args.bytes.now in
    let none = no_key_in d _ _ keys doubt a.id.0 c.requires.none s in
    unmade_leads d _ _ _ _ keys doubt s c.in-Ok.ensures.ok c.in-Ok.ensures.keeps c.in-Ok.ensures.free _ _ a bytes (body_of a bytes) e.err
    (record { is_key = c.requires.key; spelled = refl }) none (g.met.D.Disk.read_is_image c.create.new.self.disk) e.failed

pub returns-in-Ok-create-clause-placed : goal.returns-in-Ok-create-clause-placed
returns-in-Ok-create-clause-placed g c =
    let e = c.in-Ok-create.ensures in
    let old = c.args.self.now.cells.states in
    let mid = c.settle.new.self.states in
    (c.in-Ok-create._cell, first_of_settled old mid c.in-Ok-create._cell c.in-Ok.ensures.ok e.place, placed_after old mid c.create.new.self.states c.in-Ok-create._cell _ c.in-Ok.ensures.ok e.ok)

pub returns-in-Err-clause-full : goal.returns-in-Err-clause-full
returns-in-Err-clause-full g c = (λ e. cc, λ full. absurd (c.in-Err.ensures.doubted (full_is_sure c.args.self.now.cells.states full)))

pub returns-in-Err-Full-clause-nothing : goal.returns-in-Err-Full-clause-nothing
returns-in-Err-Full-clause-nothing g c = λ e.
    let full = c.in-Err-Full.ensures.full in
    let n = c.in-Err-Full.ensures.nothing (ap Err c.in-Err-Full.field-0-is) in
    let idle = c.in-Ok.ensures.idle (full_is_sure c.args.self.now.cells.states (full_of_settled c.args.self.now.cells.states c.settle.new.self.states c.in-Ok.ensures.ok (full.0 (ap Err c.in-Err-Full.field-0-is)))) in
    (n.0 ∙ idle.0, n.1 ∙ idle.1)

pub returns-in-Ok-create-clause-free : goal.returns-in-Ok-create-clause-free
returns-in-Ok-create-clause-free g c = free_but_first _ _ _ c.in-Ok.ensures.ok c.in-Ok.ensures.free c.create.ensures.free

pub returns-in-Err-Disk-clause-free : goal.returns-in-Err-Disk-clause-free
returns-in-Err-Disk-clause-free g c = free_but_first _ _ _ c.in-Ok.ensures.ok c.in-Ok.ensures.free c.create.ensures.free
