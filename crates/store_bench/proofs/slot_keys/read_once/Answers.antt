use Rattle.store_bench.proofs.ReadSlots.{as_before}
use Rattle.store_bench.proofs.slot_keys.read_once.Goals as goal

pub returns-clause-slots : goal.returns-clause-slots
returns-clause-slots c =
    rw (c.leave.ensures.slots, c.register-lease.ensures.lease, c.register-lease.ensures.slots) (as_before c.args.table.now.slots c.args.slot c.requires.full)
