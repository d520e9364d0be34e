use Rattle.key_index.proofs.Searching.{goes_up, goes_down, found_at}
use Rattle.key_index.proofs.index.search.Goals as goal

pub loop-low-preserved-in-Less : goal.loop-low-preserved-in-Less
loop-low-preserved-in-Less g c = rw c.compare.ensures.step (goes_up _ _ _ _ _ _ c.requires c.loop-low.invariant c.loop-low-test.true c.in-Less.ensures.ordering)

pub returns-in-Equal-clause-steps : goal.returns-in-Equal-clause-steps
returns-in-Equal-clause-steps g c = rw c.compare.ensures.step (found_at _ _ _ _ _ _ c.loop-low.invariant c.loop-low-test.true)

pub loop-low-preserved : goal.loop-low-preserved
loop-low-preserved g c = rw c.compare.ensures.step (goes_down _ _ _ _ _ _ c.requires c.loop-low.invariant c.loop-low-test.true c.in-Greater.ensures.ordering)
