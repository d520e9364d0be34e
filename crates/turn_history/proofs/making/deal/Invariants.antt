use Rattle.turn_history.proofs.Common.{AreNew, [], maker_of, vec_capacity, ◌+◌, ◌-◌, ◌≡◌}
use Rattle.turn_history.proofs.making.deal.Given as goal

abbrev pub invariant-loop-number : goal.invariant-loop-number
invariant-loop-number g l = record {
  table : l.first.table_id ≡ l.board.table_id;
  seat : l.first.me ≡ (maker_of (g.V.Historic.base l.board.key.value.value) (l.passes - l.number) (l.number + 1), []);
  made : AreNew l.board.table_id (g.V.Historic.base l.board.key.value.value) l.number l.made.items;
  room : vec_capacity l.made ≡ vec_capacity l.initial.made;
}
