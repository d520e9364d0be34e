use Rattle.turn_history.proofs.{Common.Closing, Common.Some, Common.boxed_base, Common.boxed_stands, Common.some-injective, Common.subst, Common.sym, Common.◌∙◌, Boxed.closing_value, Ends.closes, Keeping.some_same}
use Rattle.turn_history.proofs.ending.Ending.end.Goals as goal

pub unreachable-requires : goal.unreachable-requires
unreachable-requires g c = let e = c.args.self in
    let z = closes g.V.Historic.by (boxed_stands g.V.Historic.stands) (boxed_base g.V.Historic.base) (g.V.Historic.base e.lock.table.shared.key.value.value) e.lock.table.shared.key.passes 0 e.last.id e.last.me.0 _ _ e.watching.0 e.watching.1 c.requires c.close_with-closed.ensures.values.2 in
    let found = some-injective (Some z.0) c.take-slot.result (sym z.1 ∙ c.take-slot.ensures.value) in c.in_default.not-Some z.0 (sym found)

pub returns : goal.returns
returns g c = let e = c.args.self in
    let z = closes g.V.Historic.by (boxed_stands g.V.Historic.stands) (boxed_base g.V.Historic.base) (g.V.Historic.base e.lock.table.shared.key.value.value) e.lock.table.shared.key.passes 0 e.last.id e.last.me.0 _ _ e.watching.0 e.watching.1 c.requires c.close_with-closed.ensures.values.2 in
    let same = some_same z.0 c.in-Some.boxed (some-injective (Some z.0) c.take-slot.result (sym z.1 ∙ c.take-slot.ensures.value) ∙ c.in-Some.is) in
    subst (λ x. Closing g.V.Historic.by g.V.Historic.stands g.V.Historic.base (g.V.Historic.base e.lock.table.shared.key.value.value) e.lock.table.shared.key.passes x e.last.me.0.accounts) (sym c.into_inner.ensures)
    (closing_value g.V.Historic.by g.V.Historic.stands g.V.Historic.base (g.V.Historic.base e.lock.table.shared.key.value.value) e.lock.table.shared.key.passes c.in-Some.boxed e.last.me.0.accounts
    (subst (λ x. Closing g.V.Historic.by (boxed_stands g.V.Historic.stands) (boxed_base g.V.Historic.base) (g.V.Historic.base e.lock.table.shared.key.value.value) e.lock.table.shared.key.passes x e.last.me.0.accounts) same z.2))
