use Rattle.key_index.proofs.{Common.◌-◌, Searching.IsSearched}
use Rattle.key_index.proofs.index.search.Given as goal

abbrev pub invariant-loop-low : goal.invariant-loop-low
invariant-loop-low g l = IsSearched l.id l.entries l.initial.steps l.steps l.low l.high

abbrev pub decreases-loop-low : goal.decreases-loop-low
decreases-loop-low g l = l.high - l.low
