use Rattle.slot_table.proofs.{Common.sym, Common.◌∙◌, Linked.finds_here, Linked.finds_later, Linked.finds_none_after_all, Linked.finds_none_at_ends}
use Rattle.slot_table.proofs.recency.Recency.oldest_idle.Goals as goal

pub returns-then-slot-eq-ENDS : goal.returns-then-slot-eq-ENDS
returns-then-slot-eq-ENDS c = rw c.self.view_is at (finds_none_at_ends _ _ _ _ c.loop.invariant.1 c.if-slot-eq-ENDS.true)

pub returns-then-is_idle : goal.returns-then-is_idle
returns-then-is_idle c = rw c.self.view_is at (finds_here _ _ _ _ c.loop.invariant.1 c.loop-test.true c.if-slot-eq-ENDS.false (sym c.is_idle.ensures ∙ c.if-is_idle.true))

pub loop-preserved : goal.loop-preserved
loop-preserved c = rw c.deref-in-loop.ensures (
  c.self.invariant.newer_within c.loop.slot,
  finds_later _ _ _ _ c.loop.invariant.1 c.loop-test.true c.if-slot-eq-ENDS.false (sym c.is_idle.ensures ∙ c.if-is_idle.false),
)

pub returns : goal.returns
returns c = rw c.self.view_is at (finds_none_after_all _ _ _ _ c.loop.invariant.1 c.loop-test.false)
