use Rattle.std.proofs.Common.{map, take}
use Rattle.std.specs.Option.{option_map}
use Rattle.psa_names.specs.{Near.name_texts, Rows.name_row}
use Rattle.psa_names.proofs.Nearer.{IsNearSoFar}
use Rattle.psa_names.proofs.near.nearest_of.Given as goal

abbrev pub invariant-loop-name : goal.invariant-loop-name
invariant-loop-name l = IsNearSoFar (name_texts (map name_row (take l.name-index l.names))) l.text l.least (option_map (λ name. name.now) l.nearest)
