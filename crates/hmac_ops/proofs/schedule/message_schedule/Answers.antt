use Rattle.hmac_ops.proofs.Common.{rules, schedule}
use Rattle.hmac_ops.proofs.schedule.message_schedule.Goals as goal

pub turns-init : goal.turns-init
unfolding schedule
turns-init c = (search rules, c.put_block_words.ensures)
