use Rattle.command_words.proofs.Common.{after_words, state, None, drop, map, ◌≡◌}
use Rattle.command_words.proofs.options.read_options.Given as goal

abbrev pub invariant-loop-word : goal.invariant-loop-word
invariant-loop-word l =
    after_words (record { workers = None; seed = None; rules = None }, None) (map (λ w. w.now) l.words)
    ≡ after_words (state l.reading) (map (λ w. w.now) (drop l.word-index l.words))
