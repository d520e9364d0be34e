use Rattle.line_generator.proofs.{Common.All-push, Common.generator_line, Common.IsOfSession, Common.length-map-range_with_len, Common.All, Common.[], Common.ap, Common.arith, Common.length, Common.rules, Common.subst, Common.sym, Common.ℕ, Common.◌++◌, Common.◌∙◌, Common.◌∷◌, Common.◌≡◌, Ranges.mapped_more}
use Rattle.line_generator.proofs.generator.generated_lines.Goals as goal

of_session : (n : ℕ) → IsOfSession (generator_line n)
of_session n = (omega arith, omega arith)

pub loop-number-preserved : goal.loop-number-preserved
loop-number-preserved c =
    let pushed : c.push.new.self.items ≡ c.loop-number.lines.items ++ c.in_ok-line.line ∷ [] = search rules in
    record {
      lines = mapped_more generator_line c.loop-number.number c.loop-number.lines.items _ c.in_ok-line.line c.loop-number.invariant.lines c.in_ok-line.ensures pushed;
      sessions = subst (All IsOfSession) (sym pushed) (All-push IsOfSession c.loop-number.lines.items c.in_ok-line.line c.loop-number.invariant.sessions
          (subst IsOfSession (sym c.in_ok-line.ensures) (of_session c.loop-number.number)));
    }

pub returns-clause-length : goal.returns-clause-length
returns-clause-length c = ap length c.loop-number.invariant.lines ∙ length-map-range_with_len generator_line 0 c.loop-number.number ∙ omega arith
