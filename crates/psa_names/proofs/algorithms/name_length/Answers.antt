use Rattle.std.proofs.Common.{sym, ◌∙◌}
use Rattle.memchr.specs.Find.{is_byte2}
use Rattle.psa_names.proofs.Places.{first_place}
use Rattle.psa_names.proofs.algorithms.name_length.Goals as goal

pub returns-clause-value : goal.returns-clause-value
returns-clause-value c = c.unwrap_or.ensures ∙ sym (first_place (is_byte2 47 62) c.args.text.now c.memchr2.result c.memchr2.ensures)
