use Rattle.aes_core.proofs.{Common.arith, Common.length-set, Common.◌*◌, Common.◌+◌, Common.◌-◌, Common.◌∙◌, Common.◌≡◌, Expansion.word_added, Expansion.expanded_next, Expansion.first_place, Expansion.schedule_done, Expansion.schedule_begins, Expansion.words_start}
use Rattle.aes_core.proofs.schedule.key_expansion.Goals as goal

pub words-init : goal.words-init
words-init c = (
  c.with_room-schedule.ensures.length,
  words_start c.args.key.now c.with_room-schedule.result c.args.rounds c.requires.key c.requires.count c.with_room-schedule.ensures.words,
  first_place (c.args.rounds - 6) (omega arith),
  omega arith,
)

pub words-preserved : goal.words-preserved
words-preserved c = (
  length-set c.words.schedule c.words.i c.next_word-word.result ∙ c.words.invariant.0,
  word_added (c.args.rounds - 6) c.words.i _ c.words.schedule (omega arith) c.words.auto.i (omega arith) c.next_word-word.ensures
      ∙ expanded_next _ c.words.i c.args.key.now _ c.words.auto.i c.words.invariant.1,
  c.next_turn-next.ensures.next c.words.i c.words.invariant.2,
  c.next_turn-next.ensures.below,
)

pub returns : goal.returns
returns c =
    let end : c.words.i ≡ 4 * (c.args.rounds + 1) = omega (arith, c.words.auto.i-end (omega arith)) in
    let words = schedule_done c.args.key.now c.words.schedule c.args.rounds c.words.i c.requires.count end c.words.invariant.1 in
    record {
      key = schedule_begins c.args.key.now c.words.schedule c.args.rounds c.requires.key c.requires.count words;
      words = words;
    }
