use Rattle.operation_handles.proofs.Common.{drawn_from, ap, ◌∙◌}
use Rattle.operation_handles.proofs.turns.decide.Goals as goal

pub returns-clause-stream : goal.returns-clause-stream
returns-clause-stream g c = λ r own is. c.skip.ensures ∙ ap (drawn_from c.args.stream.now) (c.drawn.ensures.drawn r own is)
