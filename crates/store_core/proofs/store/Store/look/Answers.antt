use Rattle.store_core.proofs.Common.{ap, arith, Attributes, bytes_of, FitsUse, Gains, HasOpaque, is_opaque, is_opaque_key, is_some, IsLent, IsTrue, length, map_get, missing, permits_size, refl, rules, Some, subst, sym, true, unless-err, unless-ok, use_refusal, ℕ, ◌+◌, ◌∙◌, ◌≡◌}
use Rattle.slot_table.specs.Lent as lent
use Rattle.store_core.proofs.{Lending.has_bytes, Lending.sized, Refusing.asks_for, Refusing.ends_found, Refusing.ends_refused, Refusing.ends_unread, Refusing.few_readers, Refusing.use_plain, ByElement.unread_local, Missing.is_missing_why, Missing.is_other, Ending.look_ends}
use Rattle.store_core.proofs.store.Store.look.Goals as goal

pub lend-requires-clause-few : goal.lend-requires-clause-few
lend-requires-clause-few g c =
    let at = c.requires.stands in
    let n = (c.in-Ok.ensures.found at.0 at.1 at.2 at.3 (asks_for c.args.id.0) at.4 (λ t. refl)).0 in
    few_readers c.bring-brought.new.self.slots.table.slots n.model at.3 c.in-Ok.slot n.slots n.holdings c.in-Ok.ensures.within

pub returns-in-Ok-check : goal.returns-in-Ok-check
returns-in-Ok-check g c = record {
  size = c.bring-brought.ensures.size;
  clear = c.bring-brought.ensures.clear;
  lent = λ start opening h all more e s gains law is turn.
      let n = c.in-Ok.ensures.found start opening h all e s is.reads in
      let k = n.1 in
      let lease = c.lend.ensures.lease in
      let own = subst (λ (i : ℕ). Gains all more (i, c.lend.result.creation + 1)) (ap (λ (l : lent.Reading). l.slot) lease) gains in
      let free = (unless-ok _ _ _ (sym (c.in-Ok-check.ensures.refusal k.0 (sym k.2.attributes ∙ sym c.attributes.ensures)))).0 in
      let bytes = ap (λ (l : lent.Reading). bytes_of l.buffer) lease ∙ (k.2.bytes ∙ has_bytes c.args.wanted k.0 free) in
      ends_found g.D.Disk g.A.Devices g.C.Admission g.met.D.Disk.only_now c.args.self.now c.bring-brought.new.self start opening h all e c.args.id.0
      c.lend.new.self more (IsLent (use_refusal c.args.wanted) c.args.id.0 c.lend.result) is n.0
      (k.0, k.1, free, record { number = ap (λ (l : lent.Reading). l.creation) lease ∙ k.2.number; bytes = bytes })
      (c.lend.ensures.gives n.0.model all more n.0.slots own) law turn;
  fits = let at = c.requires.stands in
      let n = c.in-Ok.ensures.found at.0 at.1 at.2 at.3 (asks_for c.args.id.0) at.4 (λ t. refl) in
      let k = n.1 in
      let known = sym k.2.attributes ∙ sym c.attributes.ensures in
      let bytes = ap (λ (l : lent.Reading). bytes_of l.buffer) c.lend.ensures.lease ∙ (k.2.bytes ∙ has_bytes c.args.wanted k.0 ((unless-ok _ _ _ (sym (c.in-Ok-check.ensures.refusal k.0 known))).0)) in
      subst (FitsUse c.args.wanted) (sym bytes) (c.in-Ok-check.ensures.fits k.0.bytes
      (subst (λ (a : Attributes). IsTrue (permits_size a.key_type.0 (length k.0.bytes))) known (sized n.0.model c.args.id.0 k.0 (n.0.sound.keys c.args.id.0 k.0 k.1))));
  refused = tt;
  spare = tt;
  wipes = look_ends c.args.self.now.slots.table.slots c.bring-brought.new.self.slots.table.slots c.lend.new.self.table.slots c.bring-brought.ensures.wipes c.lend.ensures.wipes;
  unmoved = tt;
  emptied = tt;
  unwritten = record { disk = c.bring-brought.ensures.unwritten.disk; directory = c.bring-brought.ensures.directory; devices = c.bring-brought.ensures.devices };
  untouched = tt;
  zeros = search rules;
  later = record { disk = c.bring-brought.ensures.later; devices = (let e = ap g.A.Devices.faults c.bring-brought.ensures.devices in omega arith) };
  tells = ap is_some c.bring-brought.ensures.same;
  devices = c.bring-brought.ensures.devices;
  opened = c.bring-brought.ensures.opened;
}

pub returns-in-Err-check : goal.returns-in-Err-check
returns-in-Err-check g c = record {
  size = c.bring-brought.ensures.size;
  clear = c.bring-brought.ensures.clear;
  lent = tt;
  fits = tt;
  refused = λ start opening h all e s is turn.
      let n = c.in-Ok.ensures.found start opening h all e s is.reads in
      let k = n.1 in
      let rows = use_refusal c.args.wanted in
      let refused = unless-err _ _ _ (sym (c.in-Err-check.ensures.refusal k.0 (sym k.2.attributes ∙ sym c.attributes.ensures))) in
      ends_refused g.D.Disk g.A.Devices g.C.Admission g.met.D.Disk.only_now c.args.self.now c.bring-brought.new.self start opening h all e c.args.id.0
      rows _ (λ m. is_opaque_key (map_get m.keys c.args.id.0) ≡ true → HasOpaque g.D.Disk g.A.Devices g.C.Admission c.args.self.now c.args.id.0) (use_plain c.args.wanted (Some k.0) _ refused) is n.0 (ap rows k.1 ∙ refused)
      (λ opaque. c.in-Ok.ensures.element (ap is_opaque k.2.attributes ∙ (sym (ap is_opaque_key k.1) ∙ opaque))) turn;
  spare = c.requires.spare;
  wipes = c.bring-brought.ensures.wipes;
  unmoved = λ missing.
      let at = c.requires.stands in
      let k = (c.in-Ok.ensures.found at.0 at.1 at.2 at.3 (asks_for c.args.id.0) at.4 (λ t. refl)).1 in
      absurd (is_other c.args.wanted k.0 _ (unless-err _ _ _ (sym (c.in-Err-check.ensures.refusal k.0 (sym k.2.attributes ∙ sym c.attributes.ensures)))) missing);
  emptied = λ fault.
      let at = c.requires.stands in
      let k = (c.in-Ok.ensures.found at.0 at.1 at.2 at.3 (asks_for c.args.id.0) at.4 (λ t. refl)).1 in
      absurd (fault (use_plain c.args.wanted (Some k.0) _ (unless-err _ _ _ (sym (c.in-Err-check.ensures.refusal k.0 (sym k.2.attributes ∙ sym c.attributes.ensures))))).0);
  unwritten = record { disk = c.bring-brought.ensures.unwritten.disk; directory = c.bring-brought.ensures.directory; devices = c.bring-brought.ensures.devices };
  untouched = λ missing.
      let at = c.requires.stands in
      let k = (c.in-Ok.ensures.found at.0 at.1 at.2 at.3 (asks_for c.args.id.0) at.4 (λ t. refl)).1 in
      absurd (is_other c.args.wanted k.0 _ (unless-err _ _ _ (sym (c.in-Err-check.ensures.refusal k.0 (sym k.2.attributes ∙ sym c.attributes.ensures)))) missing);
  zeros = search rules;
  later = record { disk = c.bring-brought.ensures.later; devices = (let e = ap g.A.Devices.faults c.bring-brought.ensures.devices in omega arith) };
  tells = ap is_some c.bring-brought.ensures.same;
  devices = c.bring-brought.ensures.devices;
  opened = c.bring-brought.ensures.opened;
}

pub returns-in-Err : goal.returns-in-Err
returns-in-Err g c = record {
  size = c.bring-brought.ensures.size;
  clear = c.bring-brought.ensures.clear;
  lent = tt;
  fits = tt;
  refused = rw c.status.ensures (λ start opening h all e s is turn.
      let b = c.in-Err.ensures in
      let n = ends_unread g.D.Disk g.A.Devices g.C.Admission g.met.D.Disk.only_now c.args.self.now c.bring-brought.new.self start opening h all e c.args.id.0
      (use_refusal c.args.wanted) c.in-Err.unread (missing c.args.wanted) b.same s is (λ why. b.missing why start opening h all e s is.reads) (λ why. b.unread why start opening h all e s is.reads) b.disk b.corrupt turn in
      (n.0, (n.1, λ opaque. absurd (unread_local c.args.wanted c.args.id.0 n.0.holds.model n.0.holds.sound c.in-Err.unread n.1 opaque))));
  spare = c.requires.spare;
  wipes = c.bring-brought.ensures.wipes;
  unmoved = λ missing. c.in-Err.ensures.unmoved (is_missing_why c.in-Err.unread (sym c.status.ensures ∙ missing));
  emptied = λ fault. c.in-Err.ensures.emptied;
  unwritten = record { disk = c.bring-brought.ensures.unwritten.disk; directory = c.bring-brought.ensures.directory; devices = c.bring-brought.ensures.devices };
  untouched = λ missing. record { file = c.in-Err.ensures.untouched (is_missing_why c.in-Err.unread (sym c.status.ensures ∙ missing)); devices = c.bring-brought.ensures.devices };
  zeros = search rules;
  later = record { disk = c.bring-brought.ensures.later; devices = (let e = ap g.A.Devices.faults c.bring-brought.ensures.devices in omega arith) };
  tells = ap is_some c.bring-brought.ensures.same;
  devices = c.bring-brought.ensures.devices;
  opened = c.bring-brought.ensures.opened;
}
