use Rattle.store_core.proofs.{Common.ap, Common.false≢true, Common.sym, Common.◌∙◌, Ranges.full_so}
use Rattle.store_model.specs.Prelude.{is_per_range}
use Rattle.store_core.proofs.opening.full_range.Goals as goal

pub returns-in-Whole : goal.returns-in-Whole
returns-in-Whole g c = λ per. absurd (false≢true (sym (ap is_per_range c.in-Whole.is) ∙ per))

pub returns-in-PerRange : goal.returns-in-PerRange
returns-in-PerRange g c = full_so c.args.limits c.args.file.now.cells.states c.range_over_limit.result (ap is_per_range c.in-PerRange.is) c.range_over_limit.ensures
