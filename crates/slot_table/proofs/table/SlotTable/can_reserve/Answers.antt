use Rattle.slot_table.proofs.{Common.CanReserve, Common.List, Common.NoneEmpty, Common.Slot, Common.Table, Common.ap, Common.subst, Common.sym, Common.◌∙◌, Laws.reserves_empty, Laws.reserves_idle, Laws.finds_none}
use Rattle.slot_table.proofs.table.SlotTable.can_reserve.Goals as goal

pub returns-then-is_some-clause-room : goal.returns-then-is_some-clause-room
returns-then-is_some-clause-room c =
    let view = ap (λ (t : Table). t.slots) c.self.view_is in
    let can : CanReserve c.self.inside.rows = reserves_empty c.self.inside.rows c.find_empty.result c.find_empty.ensures.found (sym c.is_some.ensures ∙ c.if-is_some.true) in
    (λ some. subst (λ (ss : List Slot). CanReserve ss) view can, λ can'. c.if-is_some.true)

pub returns-else-is_some-clause-room : goal.returns-else-is_some-clause-room
returns-else-is_some-clause-room c =
    let view = ap (λ (t : Table). t.slots) c.self.view_is in
    let none : NoneEmpty c.self.inside.rows = finds_none c.self.inside.rows c.find_empty.result c.find_empty.ensures.found (sym c.is_some.ensures ∙ c.if-is_some.false) in
    let both = reserves_idle c.args.self.now c.oldest_idle.result c.oldest_idle.ensures.lawful (subst (λ (ss : List Slot). NoneEmpty ss) view none) c.oldest_idle.ensures.first in
    (λ some. both.0 (sym c.is_some-else-is_some.ensures ∙ some), λ can. c.is_some-else-is_some.ensures ∙ both.1 can)
