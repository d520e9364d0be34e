use Rattle.random_streams.proofs.Common.{RandomStream, ap, length, stream_of, ◌∙◌}
use Rattle.random_streams.specs.RandomWords.{next_bytes}
use Rattle.random_streams.proofs.Stream.peek.Goals as goal

pub invariant_of-ahead : goal.invariant_of-ahead
invariant_of-ahead c = rw (rw c.unwrap.ensures at c.clone.ensures.cases) c.self.invariant

pub returns : goal.returns
returns c =
    c.fill.ensures.bytes
    ∙ ap (λ (s : RandomStream). next_bytes s (length c.args.out.now)) (ap stream_of (rw c.unwrap.ensures at c.clone.ensures.cases) ∙ c.self.view_is)
