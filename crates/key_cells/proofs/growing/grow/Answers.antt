use Rattle.key_cells.proofs.{Common.◌-◌, Common.◌∙◌, Common.older_size, Stages.zeros_made}
use Rattle.key_cells.proofs.growing.grow.Goals as goal

pub write_layout-requires-clause-zeros : goal.write_layout-requires-clause-zeros
write_layout-requires-clause-zeros g c = c.deref.ensures.value ∙ c.in-Ok.ensures.items_if_clones_equal (λ byte is. is) ∙ zeros_made (c.args.old - older_size)
