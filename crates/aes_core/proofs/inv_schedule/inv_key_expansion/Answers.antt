use Rattle.aes_core.proofs.{Common.arith, Common.length-set, Common.◌*◌, Common.◌∙◌, Common.◌≡◌, InvSchedule.none_done, InvSchedule.one_more_done, InvSchedule.all_done}
use Rattle.aes_core.proofs.inv_schedule.inv_key_expansion.Goals as goal

pub words-init : goal.words-init
words-init c = (c.told-schedule, none_done c.args.schedule.now)

pub words-preserved : goal.words-preserved
words-preserved c = (
  length-set c.words.inverse c.words.i c.inv_mixed_word-word.result ∙ c.words.invariant.0,
  one_more_done c.words.i c.inv_mixed_word-word.result c.args.schedule.now c.words.inverse (omega arith) (omega arith) c.inv_mixed_word-word.ensures c.words.invariant.1,
)

pub returns : goal.returns
returns c =
    let end : c.words.i ≡ 4 * c.args.rounds = omega (arith, c.words.auto.i-end (omega arith)) in
    all_done c.args.rounds c.args.schedule.now c.words.inverse (rw end at c.words.invariant.1)
