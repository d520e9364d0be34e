use Rattle.store_core.proofs.Common.{[], always_found, ap, arith, Bool, cell_state, course_of, creation_of_state, durable_keys, Err, false, false≢true, inl, is_opaque, is_opaque_key, is_persistent_key, is_some, IsBrought, IsErrOf, IsKeyOf, List, map_get, None, Pairs, refl, slot_at, Some, stored, subst, sym, true, Unread, unread_by, ℕ, ◌∙◌, ◌∷◌, ◌≡◌}
use Rattle.store_core.proofs.{Holding.left_alone, Kept.is_persistent, Kept.key_of_cell, Kept.local, Kept.no_key, Loading.brings, Loading.filled_has, Loading.gains_one, Loading.IsLoaded, Loading.loads, Loading.stays_put, Ending.empties_none, Ending.load_empties, Ending.load_ends, Destroyed.none_at_zero, Destroyed.none_unstated}
use Rattle.key_slots.proofs.Pairs.{was_out}
use Rattle.key_cells.specs.declared.cells.CellFault.{CellFault}
use Rattle.key_cells.specs.declared.cells.CellFault.TheVariants as file
use Rattle.store_core.specs.declared.reading.Unread.TheVariants.{Corrupt, Disk, Missing}
use Rattle.store_core.proofs.store.Store.bring.Goals as goal

never_missing : (fault : CellFault) → IsErrOf {T = ℕ} {E = Unread} (Err (unread_by fault)) Missing → ⊥
never_missing file.Disk e = cc
never_missing file.Corrupt e = cc
never_missing file.Full e = cc

from_disk : (fault : CellFault) → IsErrOf {T = ℕ} {E = Unread} (Err (unread_by fault)) Disk → (fault ≡ file.Full → ⊥) → fault ≡ file.Disk
from_disk file.Disk e low = refl
from_disk file.Corrupt e low = cc
from_disk file.Full e low = absurd (low refl)

from_corrupt : (fault : CellFault) → IsErrOf {T = ℕ} {E = Unread} (Err (unread_by fault)) Corrupt → fault ≡ file.Corrupt
from_corrupt file.Disk e = cc
from_corrupt file.Corrupt e = refl
from_corrupt file.Full e = cc

is_false : (b : Bool) → (b ≡ true → ⊥) → b ≡ false
is_false true never = absurd (never refl)
is_false false never = refl

pub reserve-filling-requires : goal.reserve-filling-requires
reserve-filling-requires g c =
    let slots = c.args.self.now.slots in
    let s = c.requires.stands.4.holds in
    always_found slots.table s.model c.requires.stands.3 slots.lawful s.slots s.holdings s.sound

pub fill-slot-requires-clause-out : goal.fill-slot-requires-clause-out
fill-slot-requires-clause-out g c =
    let s = c.requires.stands.4.holds in
    let all = c.requires.stands.3 in
    let slot = c.reserve-filling.result.slot in
    let more : List Pairs = ((slot, 0) ∷ []) ∷ all in
    record { store = s.model; all = more; agrees = c.reserve-filling.ensures.gives s.model all more s.slots (gains_one all (slot, 0)); out = was_out more all slot 0 (gains_one all (slot, 0)) }

pub give_up-requires : goal.give_up-requires
give_up-requires g c =
    let s = c.requires.stands.4.holds in
    let all = c.requires.stands.3 in
    let slot = c.reserve-filling.result.slot in
    let more : List Pairs = ((slot, 0) ∷ []) ∷ all in
    record { store = s.model; all = more; agrees = c.reserve-filling.ensures.gives s.model all more s.slots (gains_one all (slot, 0)); out = was_out more all slot 0 (gains_one all (slot, 0)) }

pub returns-in-Ok-clause-found : goal.returns-in-Ok-clause-found
returns-in-Ok-clause-found g c = λ start opening h all e s is.
    let old = c.args.self.now in
    let id = c.args.id.0 in
    let a = c.in-Ok.attributes in
    let bytes = c.as_slice.result.now in
    let list = c.as_slice.ensures.list in
    let slot = c.reserve-filling.result.slot in
    let more : List Pairs = ((slot, 0) ∷ []) ∷ all in
    let gains = gains_one all (slot, 0) in
    let m = s.holds.model in
    let key : IsKeyOf a bytes = subst (IsKeyOf a) (sym list) c.in-Ok.ensures.key in
    let sized = s.holds.directory.sized in
    let there = c.in-Some-find.ensures.within in
    let numbered = c.creation-number.ensures in
    let found = loads g.D.Disk g.A.Devices g.C.Admission old c.load.new.self c.fill-slot.new.self c.wipe.new.self start opening h all e id c.in-Some-find.cell a bytes
    (record { same = c.load.ensures.same; slots = c.load.ensures.states; keeps = c.load.ensures.keeps }) s.holds is (omega arith) c.in-Some-find.ensures.here key c.in-Ok.ensures.named
    (λ tells. subst (λ (b : List ℕ). durable_keys m id ≡ Some (stored (creation_of_state (cell_state old.file.cells.states c.in-Some-find.cell)) a b)) (sym list) (c.in-Ok.ensures.loaded (durable_keys m) (course_of start h).doubt (s.holds.file tells)))
    c.in_default.ensures.found
    (λ n agrees l.
    let is_loaded : IsLoaded l.0 c.creation-number.result a bytes = record { has_number = l.2.has_number ∙ sym numbered; has_attributes = l.2.has_attributes; has_bytes = l.2.has_bytes } in
    let here = ap (map_get n.keys) c.in-Ok.ensures.named ∙ l.1 in
    c.fill-slot.ensures.takes n n more all l.0 (c.reserve-filling.ensures.gives n all more agrees gains) gains (stays_put n a.id.0 l.0 here)
    (filled_has _ l.0 c.creation-number.result a bytes refl key is_loaded) (inl here)) in
    let l = found.1 in (
      found.0,
      (
        l.0,
        l.1,
        filled_has (slot_at c.fill-slot.new.self.table.slots c.fill-slot.result) l.0 c.creation-number.result a bytes c.fill-slot.ensures.filled key
            (record { has_number = l.2.has_number ∙ sym numbered; has_attributes = l.2.has_attributes; has_bytes = l.2.has_bytes }),
      ),
    )

pub returns-in-Ok-clause-element : goal.returns-in-Ok-clause-element
returns-in-Ok-clause-element g c = λ opaque. absurd (false≢true (sym (ap (λ s. is_opaque s.attributes) c.fill-slot.ensures.filled ∙ local c.in-Ok.attributes c.as_slice.result.now (subst (IsKeyOf c.in-Ok.attributes) (sym c.as_slice.ensures.list) c.in-Ok.ensures.key)) ∙ opaque))

pub returns-in-Ok-clause-wipes : goal.returns-in-Ok-clause-wipes
returns-in-Ok-clause-wipes g c =
    let taken = c.reserve-filling.ensures in
    load_ends c.args.self.now.slots.table.slots c.reserve-filling.new.self.table.slots c.fill-slot.new.self.table.slots c.reserve-filling.result.slot taken.taken taken.wipes c.fill-slot.ensures.wipes

pub returns-in-Err : goal.returns-in-Err
returns-in-Err g c =
    let old = c.args.self.now in
    let before = old.slots.table.slots in
    let taken = c.reserve-filling.ensures in
    let gone = c.give_up.ensures in
    let loaded = c.load.ensures in
    let fault = c.in-Err.fault in
    let is = c.in-Err.is in
    let why : (u : Unread) → IsErrOf {T = ℕ} {E = Unread} (Err c.of.result) u → IsErrOf {T = ℕ} {E = Unread} (Err (unread_by fault)) u = λ u. subst (λ f. IsErrOf {T = ℕ} {E = Unread} (Err f) u) c.of.ensures in
    let s = c.requires.stands.4 in
    let slot = c.reserve-filling.result.slot in
    record {
      size = loaded.size;
      clear = c.in-Err.ensures.clear;
      within = tt;
      full = tt;
      found = tt;
      element = tt;
      missing = λ e. absurd (never_missing fault (why Missing e));
      unread = λ failed start opening h all e s is.
          let more : List Pairs = ((slot, 0) ∷ []) ∷ all in
          let gains = gains_one all (slot, 0) in
          let m = s.holds.model in
          let sized = s.holds.directory.sized in
          let there = c.in-Some-find.ensures.within in
          let key = key_of_cell old.file.cells.states m c.args.id.0 c.in-Some-find.cell s.holds.directory (omega arith) c.in-Some-find.ensures.here in
          brings g.D.Disk g.A.Devices g.C.Admission old c.load.new.self c.give_up.new.self c.load.new.out start opening h all e
          (λ n. is_persistent_key (map_get n.keys c.args.id.0) ≡ true)
          (record { same = loaded.same; slots = loaded.states; keeps = loaded.keeps }) s.holds
          (gone.takes m more all (taken.gives m all more s.holds.slots gains) gains) (is_persistent (map_get m.keys c.args.id.0) key.0 key.1 key.2);
      disk = λ e. loaded.disk (is ∙ ap Err (from_disk fault (why Disk e) (λ full. loaded.full (is ∙ ap Err full))));
      corrupt = λ e. is_false (is_some (g.D.Disk.contents c.load.new.self.cells.disk)) (λ tells.
          loaded.corrupt (is ∙ ap Err (from_corrupt fault (why Corrupt e))) _ _ (s.holds.file (sym (ap is_some loaded.same) ∙ tells)));
      same = loaded.same;
      later = loaded.later;
      wipes = load_ends before c.reserve-filling.new.self.table.slots c.give_up.new.self.table.slots slot taken.taken taken.wipes gone.wipes;
      unmoved = λ e. absurd (never_missing fault (why Missing e));
      untouched = λ e. absurd (never_missing fault (why Missing e));
      emptied = load_empties before c.reserve-filling.new.self.table.slots c.give_up.new.self.table.slots slot taken.wipes gone.wipes gone.emptied;
      directory = loaded.states;
      unwritten = record { disk = loaded.calm; directory = loaded.states; devices = refl {a = old.devices} };
      keeps = loaded.keeps;
      devices = refl {a = old.devices};
      rules = refl {a = old.rules};
      limits = refl {a = old.limits};
      made = refl {a = old.made};
      found_count = refl {a = old.found};
      ranked = refl {a = old.ranked};
      opened = refl {a = old.opened};
    }

pub returns-in-Some-clause-found : goal.returns-in-Some-clause-found
returns-in-Some-clause-found g c = λ start opening h all e s is.
    let old = c.args.self.now in
    brings g.D.Disk g.A.Devices g.C.Admission old old.file old.slots old.buffer start opening h all e
    (IsBrought c.args.id.0 (slot_at old.slots.table.slots c.in-Some.slot)) (left_alone g.D.Disk g.A.Devices g.C.Admission old.file) s.holds s.holds.slots
    (c.in-Some.ensures.key s.holds.model all s.holds.slots)

pub returns-in-Some-clause-element : goal.returns-in-Some-clause-element
returns-in-Some-clause-element g c = λ opaque start opening h all s.
    let k = c.in-Some.ensures.key s.holds.model all s.holds.slots in
    ap is_opaque_key k.1 ∙ (sym (ap is_opaque k.2.attributes) ∙ opaque)

pub returns-in_default-find-clause-missing : goal.returns-in_default-find-clause-missing
returns-in_default-find-clause-missing g c = λ is_missing start opening h all e s is.
    let old = c.args.self.now in
    let m = s.holds.model in
    brings g.D.Disk g.A.Devices g.C.Admission old old.file old.slots old.buffer start opening h all e
    (λ n. map_get n.keys c.args.id.0 ≡ None) (left_alone g.D.Disk g.A.Devices g.C.Admission old.file) s.holds s.holds.slots
    (no_key old.file.cells.states m c.args.id.0 s.holds.directory c.in_default-find.ensures (c.in_default.ensures.none m all s.holds.slots))

pub returns-in_default-find-clause-emptied : goal.returns-in_default-find-clause-emptied
returns-in_default-find-clause-emptied g c = empties_none c.args.self.now.slots.table.slots

pub returns-then-id-eq0-clause-missing : goal.returns-then-id-eq0-clause-missing
returns-then-id-eq0-clause-missing g c = λ is_missing start opening h all e s is.
    let old = c.args.self.now in
    brings g.D.Disk g.A.Devices g.C.Admission old old.file old.slots old.buffer start opening h all e
    (λ n. map_get n.keys c.args.id.0 ≡ None) (left_alone g.D.Disk g.A.Devices g.C.Admission old.file) s.holds s.holds.slots
    (none_at_zero s.holds.model c.args.id.0 s.holds.sound c.if-id-eq0.true)

pub returns-then-id-eq0-clause-emptied : goal.returns-then-id-eq0-clause-emptied
returns-then-id-eq0-clause-emptied g c = empties_none c.args.self.now.slots.table.slots

pub returns-then-id-gt-LAST_STATED_ID-clause-missing : goal.returns-then-id-gt-LAST_STATED_ID-clause-missing
returns-then-id-gt-LAST_STATED_ID-clause-missing g c = λ is_missing start opening h all e s is.
    let old = c.args.self.now in
    let m = s.holds.model in
    brings g.D.Disk g.A.Devices g.C.Admission old old.file old.slots old.buffer start opening h all e
    (λ n. map_get n.keys c.args.id.0 ≡ None) (left_alone g.D.Disk g.A.Devices g.C.Admission old.file) s.holds s.holds.slots
    (none_unstated m c.args.id.0 s.holds.sound (λ least most. let above = c.if-id-gt-LAST_STATED_ID.true in omega arith) (c.in_default.ensures.none m all s.holds.slots))

pub returns-then-id-gt-LAST_STATED_ID-clause-emptied : goal.returns-then-id-gt-LAST_STATED_ID-clause-emptied
returns-then-id-gt-LAST_STATED_ID-clause-emptied g c = empties_none c.args.self.now.slots.table.slots
