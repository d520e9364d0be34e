use Rattle.std.proofs.Common.{arith, map}
use Rattle.psa_names.specs.Rows.{name_row}
use Rattle.psa_names.proofs.Found.{named_short}
use Rattle.psa_names.proofs.names.read_short.Goals as goal

pub overflow_cast-result-in-Some-number_named : goal.overflow_cast-result-in-Some-number_named
overflow_cast-result-in-Some-number_named c = omega (arith, named_short c.args.text.now (map name_row c.args.names.now) _ c.requires c.in-Some-number_named.ensures)
