use Rattle.turn_history.proofs.{Common.[], Common.ap, Common.arith, Common.boxed_base, Common.boxed_stands, Common.◌+◌, Common.◌-◌, Common.◌∙◌, Common.◌≡◌, Splitting.makes_one}
use Rattle.turn_history.proofs.making.deal.Goals as goal

pub split_seat-requires : goal.split_seat-requires
split_seat-requires g c = let i = c.loop-number.invariant in let m = i.seat in let lt = c.loop-number-test.true in let p = c.requires.table.2 in
    let next = ap (λ x. x.0.next_number) m in let weight = ap (λ x. x.0.weight) m in let left = ap (λ x. x.0.turns_left) m in
    (i.table, c.requires.table.1, makes_one g.V.Historic.by (boxed_stands g.V.Historic.stands) (boxed_base g.V.Historic.base) _ _ _ c.loop-number.first.me.0 (g.V.Historic.base c.args.board.now.key.value.value) (ap (λ x. x.0.base) m) (ap (λ x. x.0.number) m) (omega arith) (omega arith) (omega arith) (omega arith) (ap (λ x. x.0.in_turn) m))
