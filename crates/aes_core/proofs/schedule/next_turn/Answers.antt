use Rattle.aes_core.proofs.{Common.arith, Expansion.last_place, Expansion.next_place}
use Rattle.aes_core.proofs.schedule.next_turn.Goals as goal

pub returns-then-turn-words-clause-next : goal.returns-then-turn-words-clause-next
returns-then-turn-words-clause-next c = λ i e. last_place c.args.words c.args.turn i (omega arith) e (omega arith)

pub returns-else-turn-words-clause-next : goal.returns-else-turn-words-clause-next
returns-else-turn-words-clause-next c = λ i e. next_place c.args.words c.args.turn i (omega arith) e (omega arith)
