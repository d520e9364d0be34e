use Rattle.std.proofs.Common.{ap, ◌∙◌}
use Rattle.std.specs.Option.{option_map}
use Rattle.psa_names.specs.declared.names.Name.{Name}
use Rattle.psa_names.proofs.Found.{number_found}
use Rattle.psa_names.proofs.names.number_named.Goals as goal

pub returns-in-Some : goal.returns-in-Some
returns-in-Some c = ap (option_map (λ (m : Name). m.number)) c.in-Some.ensures ∙ number_found c.args.text.now c.args.names.now

pub returns-in-None : goal.returns-in-None
returns-in-None c = ap (option_map (λ (m : Name). m.number)) c.in-None.ensures ∙ number_found c.args.text.now c.args.names.now
