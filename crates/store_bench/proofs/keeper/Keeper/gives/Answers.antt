use Rattle.std.proofs.Common.{[], ℕ, ◌+◌, ◌∷◌}
use Rattle.store_bench.specs.Keeping.{first_has}
use Rattle.store_bench.proofs.{Outs.first_gains, Outs.no_leases, Outs.none, Keepings.out, Keepings.taken}
use Rattle.store_bench.proofs.keeper.Keeper.gives.Goals as goal

pub leave-spare-requires-clause-out : goal.leave-spare-requires-clause-out
leave-spare-requires-clause-out g c = λ κs within.
    let d = g.D.Disk in
    let v = g.A.Devices in
    let p : ℕ × ℕ = (c.in-Ok.lease.slot, c.in-Ok.lease.creation + 1) in
    out d v g.C.Admission c.look.new.store (first_has (p ∷ [])) (first_has []) p (first_gains [] p) (c.in-Ok.ensures.lent [] (no_leases 4) c.self.invariant.0)

pub invariant_of-self-in-Ok : goal.invariant_of-self-in-Ok
invariant_of-self-in-Ok g c =
    let d = g.D.Disk in
    let v = g.A.Devices in
    let e = c.leave-spare.ensures in
    let p : ℕ × ℕ = (c.in-Ok.lease.slot, c.in-Ok.lease.creation + 1) in (
      taken d v g.C.Admission c.look.new.store c.leave-spare.new.self e.file e.buffer (first_has (p ∷ [])) (first_has []) p e.takes (first_gains [] p) none (c.in-Ok.ensures.lent [] (no_leases 4) c.self.invariant.0),
      e.clear,
    )

pub invariant_of-self-in-Err : goal.invariant_of-self-in-Err
invariant_of-self-in-Err g c = (c.in-Err.ensures.refused [] (no_leases 4) c.self.invariant.0, c.in-Err.ensures.spare)
