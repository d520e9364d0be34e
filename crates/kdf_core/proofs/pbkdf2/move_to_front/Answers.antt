use Rattle.kdf_core.proofs.Common.{arith, drop, drop_at, take_at, ◌∙◌}
use Rattle.kdf_core.proofs.pbkdf2.move_to_front.Goals as goal

pub returns-clause-front : goal.returns-clause-front
returns-clause-front c = take_at c.copy_from_slice.new.self (drop 32 c.args.turn.now) 32 (omega arith) ∙ c.copy_from_slice.ensures.after

pub returns-clause-rest : goal.returns-clause-rest
returns-clause-rest c = drop_at c.copy_from_slice.new.self (drop 32 c.args.turn.now) 32 (omega arith)
