use Rattle.store_core.proofs.Openings.{one_start}
use Rattle.store_core.proofs.laws.the_start_is_the_disks.Goals as goal

pub returns : goal.returns
returns c = one_start
