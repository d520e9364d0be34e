use Rattle.std.proofs.Common.{Ok, ap, arith, length, subst, sym, ◌∙◌}
use Rattle.script_lang.proofs.{Common.ScriptFails, Common.fault_at, Whole.lines_turn, Whole.lines_end, Whole.lines_fail}
use Rattle.script_lang.proofs.reading.read_lines.Goals as goal

pub loop-line-preserved : goal.loop-line-preserved
loop-line-preserved c = record {
  read = sym (lines_turn c.loop-line.number _ _ c.loop-line.lines c.in-Some.line.now c.next.new.self c.in-Some.ensures c.in-Ok-read_line.ensures.ok) ∙ c.loop-line.invariant.read;
  counted = c.in-Ok-read_line.ensures.counted;
  few = omega (arith, c.in-Ok-read_line.ensures.one, c.loop-line.invariant.few);
  sessions = c.in-Ok-read_line.ensures.sessions c.loop-line.invariant.sessions;
  bound = omega (arith, ap length c.in-Some.ensures, c.loop-line.invariant.bound);
  within = omega (arith, c.if-number-gt-LINE_LIMIT.false);
}

pub returns-in-Err-read_line-clause-value : goal.returns-in-Err-read_line-clause-value
returns-in-Err-read_line-clause-value c few =
    rw c.fault_at.ensures (subst (ScriptFails (fault_at c.loop-line.number c.in-Err-read_line.error)) c.loop-line.invariant.read
    (lines_fail c.in-Err-read_line.error c.loop-line.number _ c.loop-line.lines c.in-Some.line.now c.next.new.self c.in-Some.ensures c.in-Err-read_line.ensures.err))

pub returns-clause-value : goal.returns-clause-value
returns-clause-value c few = sym c.loop-line.invariant.read ∙ (lines_end c.loop-line.number _ c.loop-line.lines c.in_default.ensures.0 ∙ ap Ok (sym c.of.ensures))
