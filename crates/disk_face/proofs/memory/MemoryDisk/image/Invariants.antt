use Rattle.std.proofs.Common.{drop, ◌≡◌}
use Rattle.disk_face.specs.Memory.{chosen_from, chosen_image}
use Rattle.disk_face.proofs.memory.MemoryDisk.image.Given as goal

abbrev pub invariant-loop-at : goal.invariant-loop-at
invariant-loop-at l = chosen_from l.durable l.kept l.at (drop l.at l.self.steps.items) l.image.items ≡ chosen_image l.self.first.items l.self.steps.items l.kept
