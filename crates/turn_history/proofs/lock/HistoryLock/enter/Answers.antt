use Rattle.turn_history.proofs.{Common.Found, Common.Some, Common.ap, Common.arith, Common.boxed_base, Common.boxed_stands, Common.entries_of, Common.rules, Common.subst, Common.sym, Common.◌∙◌, Common.◌≡◌, Lists.entries_fewer, Turning.draws, Turning.looks, Turning.finds_value}
use Rattle.turn_history.proofs.lock.HistoryLock.enter.Goals as goal

pub fetch_add-ticket-requires : goal.fetch_add-ticket-requires
fetch_add-ticket-requires g c = (search rules, search rules, draws g.V.Historic.by (boxed_stands g.V.Historic.stands) (boxed_base g.V.Historic.base) _ _ _ _ _ c.requires.free)

pub load-ended-requires : goal.load-ended-requires
load-ended-requires g c = let m = c.loop.invariant.2 ∙ c.fetch_add-ticket.ensures.2 in
    (search rules, search rules, looks g.V.Historic.by (boxed_stands g.V.Historic.stands) (boxed_base g.V.Historic.base) _ _ _ _ _ c.fetch_add-ticket.result (ap (λ x. x.0.ticket) m) (ap (λ x. x.0.in_turn) m ∙ c.requires.free.0.1))

pub exchange-requires : goal.exchange-requires
exchange-requires g c = let m = c.loop.invariant.2 ∙ c.fetch_add-ticket.ensures.2 in
    let f = finds_value g.V.Historic.by (boxed_stands g.V.Historic.stands) (boxed_base g.V.Historic.base) (g.V.Historic.base c.args.self.now.table.shared.key.value.value) 0 c.args.self.now.table.shared.table_id.slots c.load-ended.result c.fetch_add-ticket.result c.loop.pass.me c.load-ended.new.seat.me
    c.load-ended.ensures.2 (ap (λ x. x.0.ticket) m) c.if-ended-ticket.true in (search rules, (Some f.0, f.1))

it_found : (g : _) (c : goal.After-drop-iterator g) (b : _) → c.exchange.result ≡ Some b → Found g.V.Historic.by g.V.Historic.stands g.V.Historic.base c.args.pass.now.me.0 b.value c.exchange.new.seat.me.0
it_found g c = search rules

pub returns-then-ended-ticket-clause-few : goal.returns-then-ended-ticket-clause-few
returns-then-ended-ticket-clause-few g c = let f = it_found g c c.unwrap-value.result c.unwrap-value.ensures in let few = f.few in let n = entries_fewer c.exchange.new.seat.me.0.seen in
    let is = c.entries-entries.ensures _ _ (subst (λ x. g.V.Historic.stands x (entries_of c.exchange.new.seat.me.0.seen) c.exchange.new.seat.me.0.holdings) (sym c.as_ref.ensures) f.stood) in omega arith
