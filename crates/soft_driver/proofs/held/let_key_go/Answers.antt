use Rattle.std.proofs.Common.{◌∙◌}
use Rattle.soft_driver.proofs.Rooms.{taken_out}
use Rattle.soft_driver.proofs.held.let_key_go.Goals as goal

pub returns-clause-others : goal.returns-clause-others
returns-clause-others c =
    let old = c.args.held.now in
    c.pop.ensures.rest ∙ taken_out old.items c.deref_mut.result.now c.rotate_left.new.self _ _ c.args.index old.len _ c.requires old.ok.0 c.deref_mut.ensures.value c.rotate_left.ensures.after
