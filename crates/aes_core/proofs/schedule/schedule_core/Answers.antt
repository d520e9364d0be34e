use Rattle.aes_core.proofs.{Common.ap, Common.schedule_core, Common.sub_word, Common.sym, Common.◌∙◌, BoxValues.round_constant_at, Expansion.core_at_start}
use Rattle.aes_core.proofs.schedule.schedule_core.Goals as goal

pub returns-then-turn-eq0 : goal.returns-then-turn-eq0
returns-then-turn-eq0 c =
    c.word_of.ensures
    ∙ (core_at_start c.args.words c.args.i c.to_be_bytes.result _ _ _ (sym c.requires.place ∙ c.if-turn-eq0.true)
    (c.sub_word.ensures ∙ ap sub_word c.rot_word.ensures)
    (round_constant_at c.args.words c.args.i c.requires.low c.requires.small c.requires.high)
    c.xor_words-core.ensures
    ∙ ap (schedule_core c.args.words c.args.i) c.to_be_bytes.ensures)
