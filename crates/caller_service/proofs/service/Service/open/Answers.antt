use Rattle.caller_service.proofs.Common.{inl}
use Rattle.key_cells.proofs.{CellsRead.for_told, Opened.calm_none, Opened.refused_calm}
use Rattle.caller_service.proofs.service.Service.open.Goals as goal

pub returns-in-Err-clause-refused : goal.returns-in-Err-clause-refused
returns-in-Err-clause-refused g c =
    let d = g.D.Disk in
    let disk = c.args.disk in
    inl (refused_calm d disk disk _ (calm_none d disk) (for_told (d.contents disk) _ (λ image is. tt)) (λ h. absurd h) (λ h. absurd h))
