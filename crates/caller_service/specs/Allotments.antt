-- What a caller needs of memory.
use Rattle.std.specs.Prelude.{◌≡◌, All, length}
use Rattle.secret_bytes.specs.Buffer.{IsClear}
use Rattle.callers.specs.Handles.{AreIdle}
use Rattle.caller_service.specs.declared.allotments.Allotment.{Allotment}

-- five clear spares, and four handles whose operations are inactive
pub record IsAllotment (r : Allotment) : Type 0 where
  pub five : length r.spares.items ≡ 5
  pub clear : All IsClear r.spares.items
  pub four : length r.handles.items ≡ 4
  pub idle : AreIdle r.handles.items
