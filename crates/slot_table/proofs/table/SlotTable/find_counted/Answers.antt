use Rattle.slot_table.proofs.Common.{MatchOption, NoKey, Table, ap, holds_key, index_finds, slot_at, true, ◌≡◌}
use Rattle.slot_table.proofs.table.SlotTable.find_counted.Goals as goal

pub returns-clause-found : goal.returns-clause-found
returns-clause-found g c =
    let found : MatchOption c.find_counted.result (NoKey c.args.id.0 c.self.inside.rows) (λ i. holds_key c.args.id.0 (slot_at c.self.inside.rows i) ≡ true) = index_finds (λ id i. holds_key id (slot_at c.self.inside.rows i)) _ c.self.inside.index.value _ c.self.invariant.index (rw c.deref.ensures at c.find_counted.ensures.found) in
    rw (ap (λ (t : Table). t.slots) c.self.view_is) at found
