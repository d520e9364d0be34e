use Rattle.std.proofs.Common.{ap, ◌∙◌}
use Rattle.std.specs.Option.{option_map}
use Rattle.psa_names.specs.declared.names.Name.{Name}
use Rattle.psa_names.proofs.Found.{name_found}
use Rattle.psa_names.proofs.names.name_of.Goals as goal

pub returns-in-Some : goal.returns-in-Some
returns-in-Some c = ap (option_map (λ (m : Name). m.text.now)) c.in-Some.ensures ∙ name_found c.args.number c.args.names.now

pub returns-in-None : goal.returns-in-None
returns-in-None c = ap (option_map (λ (m : Name). m.text.now)) c.in-None.ensures ∙ name_found c.args.number c.args.names.now
