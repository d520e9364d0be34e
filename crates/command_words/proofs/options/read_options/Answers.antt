use Rattle.command_words.proofs.{Common.state, Common.texts, Common.ap, Common.arith, Common.map, Common.refl, Common.sym, Common.◌∙◌, Settings.reads_all, Settings.goes_on, Settings.stops, Settings.ends}
use Rattle.std.specs.Option.{option_map}
use Rattle.command_words.proofs.options.read_options.Goals as goal

pub returns-in_err-reading : goal.returns-in_err-reading
returns-in_err-reading c =
    ap (option_map texts) c.from_residual.ensures
    ∙ sym (stops c.args.words.now c.loop-word.word-index _ (state c.loop-word.reading) c.after.result _ (omega arith) c.loop-word.invariant c.after.ensures c.in_err-reading.was)
    ∙ reads_all (map (λ w. w.now) c.args.words.now)

pub loop-word-preserved : goal.loop-word-preserved
loop-word-preserved c =
    goes_on c.args.words.now c.loop-word.word-index _ (state c.loop-word.reading) c.after.result c.in_ok-reading.reading _ (omega arith) c.loop-word.invariant c.after.ensures c.in_ok-reading.was

pub returns-in-Some : goal.returns-in-Some
returns-in-Some c =
    sym (ends c.args.words.now c.loop-word.word-index (state c.loop-word.reading) _ (omega arith) c.loop-word.invariant
    ∙ rw c.in-Some.is refl) ∙ reads_all (map (λ w. w.now) c.args.words.now)

pub returns-in-None : goal.returns-in-None
returns-in-None c =
    sym (ends c.args.words.now c.loop-word.word-index (state c.loop-word.reading) _ (omega arith) c.loop-word.invariant
    ∙ rw c.in-None.is refl) ∙ reads_all (map (λ w. w.now) c.args.words.now)
