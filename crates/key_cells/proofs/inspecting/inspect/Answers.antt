use Rattle.key_cells.proofs.{Common.IfErr-weaker, Inspection.damaged_or_memory, Inspection.opens_or_memory}
use Rattle.key_cells.proofs.inspecting.inspect.Goals as goal

pub returns-clause-opened : goal.returns-clause-opened
returns-clause-opened c = λ opens. IfErr-weaker c.read_keys.result _ _ (λ fault h. opens_or_memory c.args.image.now opens fault h) c.read_keys.ensures.fault

pub returns-clause-damaged : goal.returns-clause-damaged
returns-clause-damaged c = λ cell first. damaged_or_memory c.args.image.now cell first c.read_keys.result c.read_keys.ensures.opens c.read_keys.ensures.fault
