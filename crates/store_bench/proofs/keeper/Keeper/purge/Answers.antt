use Rattle.std.proofs.Common.{None, Some, [], ap, subst, sym, ◌∙◌, ◌≡◌}
use Rattle.std.specs.FinMap as map
use Rattle.psa_status.specs.declared.Status.TheVariants.{InvalidHandle}
use Rattle.secret_bytes.specs.Buffer.{Buffer, IsClear}
use Rattle.persistent_keys.specs.declared.file.KeyFile.{KeyFile}
use Rattle.store_core.specs.Prelude.{there_rows}
use Rattle.store_bench.specs.Keeping.{first_has}
use Rattle.store_bench.proofs.Keepings.{added_or_not}
use Rattle.store_bench.proofs.keeper.Keeper.purge.Goals as goal

pub invariant_of-self : goal.invariant_of-self
invariant_of-self g c =
    let d = g.D.Disk in
    let v = g.A.Devices in
    let e = c.purge.ensures in
    let id = c.args.id.0 in (
      added_or_not d v g.C.Admission c.self.inside.store c.purge.new.self (first_has []) (ap (λ (f : KeyFile _). d.size f.cells.disk) e.file ∙ c.self.invariant.0.sized) (subst (λ (b : Buffer). IsClear b) (sym e.buffer) c.self.invariant.0.clear) c.purge.result (λ m. there_rows (map.get m.keys id) ≡ None) (λ status. status ≡ InvalidHandle) (λ status m. there_rows (map.get m.keys id) ≡ Some status) e.there e.missing c.self.invariant.0,
      c.self.invariant.1,
    )
