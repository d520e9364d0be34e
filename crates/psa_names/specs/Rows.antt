-- The rows of the program's tables.
use Rattle.std.specs.{Prelude.ℕ, Prelude.◌^◌, Prelude.Bool, Prelude.List, Prelude.nat_lt, List.list_all}
use Rattle.psa_names.specs.Tables.{NameTable}
use Rattle.psa_names.specs.declared.names.Name.{Name}

abbrev pub name_row : Name → ℕ × List ℕ
name_row name = (name.number, name.text.now)

-- whether the numbers of a table have 16 bits
abbrev pub are_short : NameTable → Bool
are_short names = list_all (λ r. nat_lt r.0 (2 ^ 16)) names
