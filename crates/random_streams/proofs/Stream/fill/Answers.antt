use Rattle.random_streams.proofs.{Common.RandomStream, Common.ap, Common.length, Common.random_bytes, Common.stream_of, Common.sym, Common.words_used, Common.◌+◌, Common.◌∙◌, Drawing.filled, Drawing.still_sound}
use Rattle.random_streams.proofs.Stream.fill.Goals as goal

pub invariant_of-self : goal.invariant_of-self
invariant_of-self c =
    let fits = rw (sym c.self.view_is) at c.requires in
    let done = filled c.self.inside.generator c.fill_bytes_via_u32.new.rng (length c.args.out.now) c.fill_bytes_via_u32.new.dst c.self.invariant fits c.fill_bytes_via_u32.ensures in
    rw done.1 (still_sound c.self.inside.generator _ c.self.invariant fits)

pub returns : goal.returns
returns c =
    let fits = rw (sym c.self.view_is) at c.requires in
    let done = filled c.self.inside.generator c.fill_bytes_via_u32.new.rng (length c.args.out.now) c.fill_bytes_via_u32.new.dst c.self.invariant fits c.fill_bytes_via_u32.ensures in
    record {
      bytes = done.0 ∙ ap (λ (s : RandomStream). random_bytes s.seed s.caller s.place (length c.args.out.now)) c.self.view_is;
      place = ap stream_of done.1 ∙ ap (λ (s : RandomStream). record s { place = s.place + words_used (length c.args.out.now) }) c.self.view_is;
    }
