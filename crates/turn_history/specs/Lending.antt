-- A turn that lends its value.
use Rattle.std.specs.Borrow.{Lends, MutBor, Fml}
use denote.RattleType.{RattleType}
use Rattle.turn_history.specs.{declared.turn.Turn.Turn, contracts.turn.Turn.the_row}

abbrev pub LendsValue : (R : RattleType) → MutBor (Turn R.Denot) → MutBor R.Denot → Fml
LendsValue R t r = Lends (the_row R) R t r (λ w. record t.now { value = record t.now.value { value = w } })
