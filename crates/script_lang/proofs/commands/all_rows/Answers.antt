use Rattle.std.proofs.Common.{refl}
use Rattle.script_lang.proofs.Common.{rows}
use Rattle.script_lang.proofs.commands.all_rows.Goals as goal

pub returns : goal.returns
unfolding rows
returns c = refl
