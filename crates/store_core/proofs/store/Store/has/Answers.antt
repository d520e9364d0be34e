use Rattle.store_core.proofs.{Common.ap, Common.arith, Common.is_some, Kept.key_of_cell, Kept.no_key, Destroyed.low_lasts, Destroyed.none_unstated}
use Rattle.store_core.proofs.store.Store.has.Goals as goal

pub returns-in-None : goal.returns-in-None
returns-in-None g c = λ m all agrees directory sound.
    ap is_some (none_unstated m c.args.id.0 sound (λ least most. let high = c.if-id-gt-LAST_STATED_ID.true in omega arith) (c.in-None.ensures.none m all agrees))

pub returns-in-Some-find : goal.returns-in-Some-find
returns-in-Some-find g c = λ m all agrees directory sound.
    let first = c.in-Some-find.ensures in
    let sized = directory.sized in
    let inside = first.within in
    ap is_some (key_of_cell c.args.self.now.file.cells.states m c.args.id.0 c.in-Some-find._cell directory (omega arith) first.here).1

pub returns-in-None-find : goal.returns-in-None-find
returns-in-None-find g c = λ m all agrees directory sound.
    ap is_some (no_key c.args.self.now.file.cells.states m c.args.id.0 directory c.in-None-find.ensures (low_lasts m c.args.id.0 sound (let low = c.if-id-gt-LAST_STATED_ID.false in omega arith)))
