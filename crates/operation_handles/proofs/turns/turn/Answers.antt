use Rattle.operation_handles.proofs.Common.{next_bytes, sym}
use Rattle.operation_handles.proofs.turns.turn.Goals as goal

pub returns-clause-state : goal.returns-clause-state
returns-clause-state g c = λ own is. c.compute.ensures.state (next_bytes c.args.stream.now 16) own (λ t. sym (c.decide-random.ensures.random t)) is

pub returns-clause-reply : goal.returns-clause-reply
returns-clause-reply g c = λ own is. c.compute.ensures.reply (next_bytes c.args.stream.now 16) own (λ t. sym (c.decide-random.ensures.random t)) is

pub returns-clause-buffer : goal.returns-clause-buffer
returns-clause-buffer g c = λ own is. c.compute.ensures.buffer (next_bytes c.args.stream.now 16) own (λ t. sym (c.decide-random.ensures.random t)) is

pub returns-clause-stream : goal.returns-clause-stream
returns-clause-stream g c = λ own is. c.decide-random.ensures.stream (next_bytes c.args.stream.now 16) own is
