use Rattle.slot_table.proofs.{Common.sym, Common.◌∙◌, Laws.idle_is_found, Laws.first_is_full, Laws.first_is_unread}
use Rattle.slot_table.proofs.table.SlotTable.evict.Goals as goal

pub unwrap-oldest-requires : goal.unwrap-oldest-requires
unwrap-oldest-requires c = idle_is_found c.args.self.now _ c.oldest_idle.ensures.lawful c.requires.some c.requires.full c.oldest_idle.ensures.first

pub discard-requires-clause-full : goal.discard-requires-clause-full
discard-requires-clause-full c = first_is_full c.args.self.now c.unwrap-oldest.result (sym c.oldest_idle.ensures.first ∙ c.unwrap-oldest.ensures)

pub discard-requires-clause-unread : goal.discard-requires-clause-unread
discard-requires-clause-unread c = first_is_unread c.args.self.now c.unwrap-oldest.result (sym c.oldest_idle.ensures.first ∙ c.unwrap-oldest.ensures)
