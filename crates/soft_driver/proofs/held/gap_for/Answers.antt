use Rattle.soft_driver.proofs.Searches.{is_gap}
use Rattle.soft_driver.proofs.held.gap_for.Goals as goal

pub unwrap_err-requires : goal.unwrap_err-requires
unwrap_err-requires c = is_gap c.args.held.now c.args.handle c.search.result c.requires.new c.search.ensures.found
