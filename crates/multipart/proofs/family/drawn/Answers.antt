use Rattle.std.proofs.Common.{subst, sym, ◌≡◌}
use Rattle.multipart.specs.Turns.{by_key}
use Rattle.multipart.proofs.family.drawn.Goals as goal

pub returns-clause-drawn : goal.returns-clause-drawn
returns-clause-drawn g c = λ r own is.
    subst (λ b. c.draws.result ≡ (by_key b own (λ w. g.F.Family.meaning r w c.args.step.now c.args.room)).drawn) (sym c.if-not-alive.false) (c.draws.ensures.drawn r own is)
