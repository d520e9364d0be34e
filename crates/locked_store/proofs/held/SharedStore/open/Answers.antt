use Rattle.locked_store.proofs.Common.{FindsKeysOf, HasRoom, IfSome, IsSoundStore, IsStart, Service, ap, arith, inr, is_some, lock_of, opened_of, subst, sym}
use Rattle.locked_store.proofs.held.SharedStore.open.Goals as goal

pub new-requires-clause-stands : goal.new-requires-clause-stands
unfolding lock_of opened_of
new-requires-clause-stands g c = let e = c.in_ok-store.ensures in record {
  start = e.starts.0;
  starts = e.starts.1;
  each = λ start is. e.stands start 16 is (omega arith);
  signed = tt;
  rising = tt;
  sized = e.size;
  clear = e.clear;
  tells = ap (λ f. is_some (g.D.Disk.contents f.cells.disk)) (sym e.saw_file);
  knows = ap (λ d. is_some (g.A.Devices.keys d)) (sym e.saw_devices);
}

pub returns-in-Ok-clause-starts : goal.returns-in-Ok-clause-starts
unfolding lock_of opened_of
returns-in-Ok-clause-starts g c = subst (λ o. (start : Service) × IsStart g.D.Disk g.A.Devices g.C.Admission o start) (sym c.in-Ok.ensures.lock.1) c.in_ok-store.ensures.starts

-- nothing was read before the first call: each start is the model of what the store stands for
pub returns-in-Ok-clause-sound : goal.returns-in-Ok-clause-sound
unfolding lock_of opened_of
returns-in-Ok-clause-sound g c = subst (λ o. (start : Service) → IsStart g.D.Disk g.A.Devices g.C.Admission o start → IsSoundStore start.store) (sym c.in-Ok.ensures.lock.1)
    (λ start is. let holds = (c.in_ok-store.ensures.stands start 16 is (omega arith)).holds in subst IsSoundStore (holds.replayed (inr tt)) holds.sound)

pub returns-in-Ok-clause-keys : goal.returns-in-Ok-clause-keys
unfolding lock_of opened_of
returns-in-Ok-clause-keys g c = subst (λ o. IfSome (g.D.Disk.contents c.args.disk) (FindsKeysOf g.D.Disk g.A.Devices g.C.Admission o)) (sym c.in-Ok.ensures.lock.1) c.in_ok-store.ensures.keys

pub returns-in-Ok-clause-room : goal.returns-in-Ok-clause-room
unfolding lock_of opened_of
returns-in-Ok-clause-room g c =
    let e = c.in_ok-store.ensures in
    subst (λ o. HasRoom c.args.limits o.file.value.cells.states) (sym c.in-Ok.ensures.lock.1) (subst (λ f. HasRoom c.args.limits f.cells.states) (sym e.saw_file) e.room)

pub invariant_of-seen : goal.invariant_of-seen
unfolding lock_of opened_of
invariant_of-seen g c = record { starts = subst (λ o. ∥ ((start : Service) × IsStart g.D.Disk g.A.Devices g.C.Admission o start) ∥₁) (sym c.of.ensures) ∣ c.in_ok-store.ensures.starts ∣₁ }
