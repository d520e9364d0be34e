use Rattle.hmac_ops.proofs.{Common.arith, Common.first_words, Common.rules, ScheduleWords.first_words-more}
use Rattle.hmac_ops.proofs.schedule.put_block_words.Goals as goal

pub words-init : goal.words-init
unfolding first_words
words-init c = search rules

pub words-preserved : goal.words-preserved
words-preserved c = (
  search rules,
  first_words-more c.args.block.now c.words.words c.words.t c.word_at.result (omega arith) c.words.invariant.1 c.word_at.ensures,
)
