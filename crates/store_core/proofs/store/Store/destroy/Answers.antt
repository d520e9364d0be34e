use Rattle.store_core.proofs.{Common.arith, Common.map_get, Kept.key_of_cell, Kept.no_key, Destroyed.low_lasts, Destroyed.none_at_zero, Destroyed.none_unstated, Destroyed.rows_zero, Destroyed.rows_missing, Destroyed.stated_here, DestroyTurn.nothing, Ending.lacks_key, Zeroed.lacks_cell}
use Rattle.std.proofs.lemmas.Result.{on_ok_weaker}
use Rattle.store_core.specs.Uses.{FreesCellsOf}
use Rattle.store_core.proofs.store.Store.destroy.Goals as goal

pub returns-then-id-eq0-clause-destroyed : goal.returns-then-id-eq0-clause-destroyed
returns-then-id-eq0-clause-destroyed g c = λ start opening h all e s call is.
    let m = s.holds.model in
    let zero = c.if-id-eq0.true in (
      nothing g.D.Disk g.A.Devices g.C.Admission g.met.D.Disk.only_now c.args.self.now start opening h all e c.args.id.0 call s (none_at_zero m c.args.id.0 s.holds.sound zero) is,
      rows_zero c.args.id.0 (map_get m.keys c.args.id.0) zero,
    )

pub returns-in_default-clause-failed : goal.returns-in_default-clause-failed
returns-in_default-clause-failed g c = λ start opening h all e s call is.
    let m = s.holds.model in
    let none = none_unstated m c.args.id.0 s.holds.sound (λ least most. let high = c.if-id-gt-LAST_STATED_ID.true in omega arith) (c.in_default.ensures.none m all s.holds.slots) in (
      nothing g.D.Disk g.A.Devices g.C.Admission g.met.D.Disk.only_now c.args.self.now start opening h all e c.args.id.0 call s none is,
      rows_missing c.args.id.0 (map_get m.keys c.args.id.0) c.if-id-eq0.false none,
    )

pub returns-in_default-find-clause-failed : goal.returns-in_default-find-clause-failed
returns-in_default-find-clause-failed g c = λ start opening h all e s call is.
    let m = s.holds.model in
    let none = no_key c.args.self.now.file.cells.states m c.args.id.0 s.holds.directory c.in_default-find.ensures (low_lasts m c.args.id.0 s.holds.sound (let low = c.if-id-gt-LAST_STATED_ID.false in omega arith)) in (
      nothing g.D.Disk g.A.Devices g.C.Admission g.met.D.Disk.only_now c.args.self.now start opening h all e c.args.id.0 call s none is,
      rows_missing c.args.id.0 (map_get m.keys c.args.id.0) c.if-id-eq0.false none,
    )

pub returns-in_default-find-clause-ended : goal.returns-in_default-find-clause-ended
returns-in_default-find-clause-ended g c = λ i has.
    let slots = c.args.self.now.slots in
    let s = c.requires.stands.4.holds in
    absurd (lacks_key slots.table s.model c.requires.stands.3 c.args.id.0 slots.lawful s.slots
    (no_key c.args.self.now.file.cells.states s.model c.args.id.0 s.directory c.in_default-find.ensures (low_lasts s.model c.args.id.0 s.sound (let low = c.if-id-gt-LAST_STATED_ID.false in omega arith))) i has)

pub returns-then-id-gt-LAST_STATED_ID-clause-freed : goal.returns-then-id-gt-LAST_STATED_ID-clause-freed
returns-then-id-gt-LAST_STATED_ID-clause-freed g c =
    let s = c.requires.stands.4.holds in
    let old = c.args.self.now.file.cells.states in
    let frees : FreesCellsOf c.args.id.0 old c.remove_volatile-removed.new.self.file.cells.states = λ cell lt has.
    let k = key_of_cell old s.model c.args.id.0 cell s.directory lt has in
    let low = (stated_here s.model c.args.id.0 k.0 k.1 s.sound k.2).1 in
    let high = c.if-id-gt-LAST_STATED_ID.true in
    absurd (omega arith) in
    on_ok_weaker c.remove_volatile-removed.result (λ gone. frees) c.remove_volatile-removed.ensures.forgotten

pub returns-then-id-eq0-clause-ended : goal.returns-then-id-eq0-clause-ended
returns-then-id-eq0-clause-ended g c = λ i has.
    let slots = c.args.self.now.slots in
    let s = c.requires.stands.4.holds in
    absurd (lacks_key slots.table s.model c.requires.stands.3 c.args.id.0 slots.lawful s.slots (none_at_zero s.model c.args.id.0 s.sound c.if-id-eq0.true) i has)

pub returns-then-id-eq0-clause-freed : goal.returns-then-id-eq0-clause-freed
returns-then-id-eq0-clause-freed g c = λ cell within has.
    let s = c.requires.stands.4.holds in
    absurd (lacks_cell c.args.self.now.file.cells.states s.model c.args.id.0 s.directory (none_at_zero s.model c.args.id.0 s.sound c.if-id-eq0.true) cell within has)

pub returns-then-id-eq0-clause-forgotten : goal.returns-then-id-eq0-clause-forgotten
returns-then-id-eq0-clause-forgotten g c = λ i lt has.
    let slots = c.args.self.now.slots in
    let s = c.requires.stands.4.holds in
    absurd (lacks_key slots.table s.model c.requires.stands.3 c.args.id.0 slots.lawful s.slots (none_at_zero s.model c.args.id.0 s.sound c.if-id-eq0.true) i has)
