-- What an opening is refused for.
use Rattle.std.specs.Prelude.{ℕ, List, ⊤}
use Rattle.key_cells.specs.{declared.reading.OpenFault.OpenFault, declared.reading.OpenFault.TheVariants.NotAStore, declared.reading.OpenFault.TheVariants.DamagedCell, declared.reading.OpenFault.TheVariants.Disk, Image.IsNoStore, Image.IsFirstDamaged}

-- what the image has then
abbrev pub IsOpenFaultOf : OpenFault → List ℕ → Type 0
IsOpenFaultOf NotAStore image = IsNoStore image
IsOpenFaultOf (DamagedCell cell) image = IsFirstDamaged image cell
IsOpenFaultOf _ image = ⊤

abbrev pub IsDisk : OpenFault → Type 0
IsDisk Disk = ⊤
IsDisk _ = ⊥

-- a refusal for what the image has
abbrev pub IsRefusal : OpenFault → Type 0
IsRefusal NotAStore = ⊤
IsRefusal (DamagedCell cell) = ⊤
IsRefusal _ = ⊥
