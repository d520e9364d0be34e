use Rattle.std.proofs.Common.{ap, ◌∙◌}
use Rattle.script_lang.proofs.{Common.row_named, Common.shape, Table.found_shape}
use Rattle.std.specs.Option.{option_map}
use Rattle.script_lang.proofs.commands.row_named.Goals as goal

pub returns : goal.returns
unfolding row_named
returns c = ap (option_map shape) (c.copied.ensures ∙ c.find_row.ensures) ∙ found_shape c.args.word.now c.all_rows.result.now c.all_rows.ensures
