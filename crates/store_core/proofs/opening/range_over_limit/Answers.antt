use Rattle.store_core.proofs.{Common.arith, Common.cases_eq, Common.cases_lt, Common.⊎_elim, Ranges.few_past}
use Rattle.store_core.proofs.opening.range_over_limit.Goals as goal

pub returns-then-in_range-gt-RANGE_LIMIT : goal.returns-then-in_range-gt-RANGE_LIMIT
returns-then-in_range-gt-RANGE_LIMIT g c = record { here = omega (arith, c.if-in_range-gt-RANGE_LIMIT.true, c.in_range.ensures); below = c.loop-range.invariant }

pub loop-range-init : goal.loop-range-init
loop-range-init g c = λ range lt. absurd (omega (arith, lt))

pub loop-range-preserved : goal.loop-range-preserved
loop-range-preserved g c = λ range lt. ⊎_elim
    (λ is. rw is (omega (arith, c.if-in_range-gt-RANGE_LIMIT.false, c.in_range.ensures)))
    (λ differs. c.loop-range.invariant range (omega (arith, lt, differs)))
    (cases_eq range c.loop-range.range)

pub returns : goal.returns
returns g c = λ range. ⊎_elim
    (λ lt. c.loop-range.invariant range (omega (arith, lt)))
    (λ past. few_past c.args.file.now.cells.states range c.requires.sized c.requires.named past)
    (cases_lt range 16)
