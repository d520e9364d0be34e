use Rattle.key_cells.proofs.{Common.eq-eqb, Common.eqb-true, Common.sym, Common.◌∙◌, Directories.none_in_doubt, Directories.sure_has_none}
use Rattle.key_cells.proofs.directory.Directory.is_sure.Goals as goal

pub returns : goal.returns
returns c = rw (← c.self.view_is) (
  λ is. none_in_doubt _ (sym c.self.invariant.in_doubt ∙ eqb-true _ _ is),
  λ sure. eq-eqb _ _ (c.self.invariant.in_doubt ∙ sure_has_none _ sure),
)
