use Rattle.std.proofs.Common.{None, [], ap, arith, length, ℕ, ◌∷◌}
use Rattle.store_core.specs.{declared.store.Store.Store, Prelude.IsMade, Prelude.IsUnmade, Prelude.RecordsStated, Prelude.mark_unmade}
use Rattle.store_bench.specs.Keeping.{first_has}
use Rattle.store_bench.proofs.{Outs.first_gains, Outs.none, Keepings.few_reserved, Keepings.made_or_not, Keepings.out_alone, Keepings.reserved}
use Rattle.store_bench.proofs.keeper.Keeper.import.Goals as goal

pub finish-requires-clause-out : goal.finish-requires-clause-out
finish-requires-clause-out g c = λ κs within.
    let d = g.D.Disk in
    let v = g.A.Devices in
    let r = c.reserve-filling in
    let p : ℕ × ℕ = (r.result.slot, 0) in
    out_alone d v g.C.Admission r.new.self (first_has (p ∷ [])) (first_has []) p (first_gains [] p)
    (reserved d v g.C.Admission c.self.inside.store r.new.self r.ensures.file r.ensures.buffer p.0 r.ensures.gives c.self.invariant.0)

pub finish-requires-clause-few : goal.finish-requires-clause-few
finish-requires-clause-few g c = λ κs within.
    let d = g.D.Disk in
    let v = g.A.Devices in
    let r = c.reserve-filling in
    let p : ℕ × ℕ = (r.result.slot, 0) in
    let before = c.is_over.ensures c.if-is_over.false in
    let same = ap (λ (s : Store _ _ _). s.ranked) c.self.view_is in
    let few = few_reserved d v g.C.Admission c.self.inside.store r.new.self r.ensures.file r.ensures.buffer p.0 r.ensures.gives c.self.invariant.0 (omega (arith, before, same)) in
    omega (arith, few)

pub invariant_of-self : goal.invariant_of-self
invariant_of-self g c =
    let d = g.D.Disk in
    let v = g.A.Devices in
    let r = c.reserve-filling in
    let p : ℕ × ℕ = (r.result.slot, 0) in
    let e = c.finish.ensures in
    let k = reserved d v g.C.Admission c.self.inside.store r.new.self r.ensures.file r.ensures.buffer p.0 r.ensures.gives c.self.invariant.0 in
    let a = c.args.attributes.now in
    let bytes = c.args.bytes.now in
    let records = RecordsStated None 1 a (length bytes) in (
      made_or_not d v g.C.Admission r.new.self c.finish.new.self (first_has (p ∷ [])) e.size (e.clear k.clear) c.finish.result (first_has []) 1 a bytes p mark_unmade (λ id. IsMade records 1 id.0) (IsUnmade records) (omega arith) (omega arith) e.made e.unmade (first_gains [] p) none k,
      c.self.invariant.1,
    )
