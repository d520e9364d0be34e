use Rattle.key_cells.proofs.{Common.◌∙◌, Directories.counts_range}
use Rattle.key_cells.proofs.directory.Directory.in_range.Goals as goal

pub returns : goal.returns
returns c = rw (← c.self.view_is) ((rw c.deref.ensures at c.count_between.ensures) ∙ (c.self.invariant.passing _ ∙ counts_range c.args.range c.self.inside.states.items))
