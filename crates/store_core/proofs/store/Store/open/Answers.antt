use Rattle.store_core.proofs.{Common.ap, Common.count_by, Common.is_open, Common.IsClear, Common.IsOpened, Common.KeyFile, Common.KeySlots, Common.Lacks, Common.refl, Common.subst, Common.sym, Common.◌∙◌, Common.◌≤◌, Started.IsNew, Started.starts, Started.exactly, Started.stands, Started.without_memory}
use Rattle.store_core.proofs.store.Store.open.Goals as goal

is_new : (g : _) (c : goal.After-with_file g) →
    IsNew g.D.Disk g.A.Devices g.C.Admission c.args.disk c.with_file.result
is_new g c =
    let e = c.with_file.ensures in
    record {
      file = subst (λ (f : KeyFile _). IsOpened g.D.Disk c.args.disk f.cells.disk f.cells.states) (sym e.file) c.in-Ok-open.ensures.opened;
      slots = ap (λ (s : KeySlots). s.table.slots) e.slots ∙ c.in-Ok.ensures.slots;
      made = e.made;
      live = e.live;
      kept = e.kept ∙ ap (λ (f : KeyFile _). count_by is_open f.cells.states) (sym e.file);
      found = e.found ∙ ap (λ (f : KeyFile _). count_by is_open f.cells.states) (sym e.file);
      ranked = e.ranked;
      saw_file = e.saw_file ∙ sym e.file;
      saw_devices = e.saw_devices ∙ sym e.devices;
      saw_rules = e.saw_rules ∙ sym e.rules;
      saw_limits = e.saw_limits ∙ sym e.limits;
      room = rw (e.limits, e.file) c.in-None.ensures;
    }

pub returns-in-None-clause-stands : goal.returns-in-None-clause-stands
returns-in-None-clause-stands g c = λ start callers s few.
    let store = c.with_file.result in
    stands g.D.Disk g.A.Devices g.C.Admission c.args.disk store (is_new g c) (g.met.D.Disk.read_is_image store.file.cells.disk)
    (λ handle. subst (λ x. Lacks (g.A.Devices.keys x) handle) (sym c.with_file.ensures.devices) (c.requires.empty handle)) (g.met.D.Disk.only_now store.file.cells.disk) start callers s few

pub returns-in-None-clause-starts : goal.returns-in-None-clause-starts
returns-in-None-clause-starts g c =
    let store = c.with_file.result in
    starts g.D.Disk g.A.Devices g.C.Admission c.args.disk store (is_new g c) (g.met.D.Disk.read_is_image store.file.cells.disk)
    (record { seed = store.opened.seed.value; labels = g.C.Admission.labels store.rules; locations = g.A.Devices.locations store.devices; limits = store.limits }) refl refl refl refl

pub returns-in-None-clause-keys : goal.returns-in-None-clause-keys
returns-in-None-clause-keys g c =
    let store = c.with_file.result in
    exactly g.D.Disk g.A.Devices g.C.Admission c.args.disk store (is_new g c) (g.met.D.Disk.read_is_image store.file.cells.disk)

pub returns-in-None-clause-room : goal.returns-in-None-clause-room
returns-in-None-clause-room g c = rw c.with_file.ensures.file c.in-None.ensures

pub returns-in-None-clause-opened : goal.returns-in-None-clause-opened
returns-in-None-clause-opened g c = (is_new g c).file

pub returns-in-None-clause-later : goal.returns-in-None-clause-later
returns-in-None-clause-later g c =
    subst (λ (f : KeyFile _). g.D.Disk.faults c.args.disk ≤ g.D.Disk.faults f.cells.disk) (sym c.with_file.ensures.file) c.in-Ok-open.ensures.later

pub returns-in-None-clause-size : goal.returns-in-None-clause-size
returns-in-None-clause-size g c = ap (λ (f : KeyFile _). g.D.Disk.size f.cells.disk) c.with_file.ensures.file ∙ c.in-Ok-open.ensures.size

pub returns-in-None-clause-clear : goal.returns-in-None-clause-clear
returns-in-None-clause-clear g c = subst IsClear (sym c.with_file.ensures.buffer) c.in-Ok.ensures.buffer

pub returns-in-None-clause-found : goal.returns-in-None-clause-found
returns-in-None-clause-found g c = (is_new g c).found

pub returns-in-None-clause-saw_file : goal.returns-in-None-clause-saw_file
returns-in-None-clause-saw_file g c = (is_new g c).saw_file

pub returns-in-None-clause-saw_devices : goal.returns-in-None-clause-saw_devices
returns-in-None-clause-saw_devices g c = (is_new g c).saw_devices

pub returns-in-None-clause-saw_rules : goal.returns-in-None-clause-saw_rules
returns-in-None-clause-saw_rules g c = (is_new g c).saw_rules

pub returns-in-Err-open-clause-refused : goal.returns-in-Err-open-clause-refused
returns-in-Err-open-clause-refused g c = c.in-Err-open.ensures.refused

pub returns-in-Err-clause-refused : goal.returns-in-Err-clause-refused
returns-in-Err-clause-refused g c = without_memory g.D.Disk g.A.Devices g.C.Admission c.args.disk
