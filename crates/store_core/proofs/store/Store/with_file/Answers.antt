use Rattle.store_core.proofs.Common.{arith, count_by-le-length, is_open, refl}
use Rattle.store_core.proofs.store.Store.with_file.Goals as goal

pub overflow_cast-result : goal.overflow_cast-result
overflow_cast-result g c =
    let few = count_by-le-length is_open c.args.file.cells.states in
    let sized = c.requires.sized in
    let count = c.count-count.ensures.count in
    omega (arith, few, sized, count)

pub returns : goal.returns
returns g c = record {
  file = refl;
  slots = refl;
  devices = refl;
  rules = refl;
  limits = refl;
  made = refl;
  live = refl;
  kept = c.count-count.ensures.count;
  found = c.count-count.ensures.count;
  ranked = refl;
  buffer = refl;
  saw_file = c.of.ensures;
  saw_devices = c.of-2.ensures;
  saw_rules = c.of-3.ensures;
  saw_limits = c.of-4.ensures;
  saw_seed = c.of-5.ensures;
}
