use Rattle.aes_core.proofs.WordBytes.{key_added}
use Rattle.aes_core.proofs.columns.add_round_key.Goals as goal

pub returns : goal.returns
returns c = key_added c.args.schedule.now c.args.s c.args.round
