use Rattle.hmac_ops.proofs.{Common.arith, Common.refl, ScheduleWords.schedule-more}
use Rattle.hmac_ops.proofs.schedule.put_next_word.Goals as goal

pub returns : goal.returns
returns c = λ b held.
    schedule-more b c.args.words.now c.args.t _ (omega arith) (omega arith) held (rw (c.small_sigma1.ensures, c.small_sigma0.ensures) refl)
