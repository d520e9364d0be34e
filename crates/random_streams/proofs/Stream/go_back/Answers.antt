use Rattle.random_streams.proofs.{Common.RandomStream, Common.ap, Common.arith, Common.stream_of, Common.sym, Common.words_offered, Common.◌∙◌, Common.◌≤◌, Drawing.set_back, Drawing.still_sound}
use Rattle.random_streams.proofs.Stream.go_back.Goals as goal

pub invariant_of-self : goal.invariant_of-self
invariant_of-self c =
    let passed = rw (sym c.self.view_is) at c.requires in
    let offered : c.args.place ≤ words_offered = omega (arith, c.self.invariant.place, passed) in
    rw (set_back c.self.inside.generator c.set_word_pos.new.self c.args.place c.from.result offered c.from.ensures c.set_word_pos.ensures)
    (still_sound c.self.inside.generator c.args.place c.self.invariant offered)

pub returns : goal.returns
returns c =
    let passed = rw (sym c.self.view_is) at c.requires in
    ap stream_of (set_back c.self.inside.generator c.set_word_pos.new.self c.args.place c.from.result (omega (arith, c.self.invariant.place, passed)) c.from.ensures c.set_word_pos.ensures)
    ∙ ap (λ (s : RandomStream). record s { place = c.args.place }) c.self.view_is
