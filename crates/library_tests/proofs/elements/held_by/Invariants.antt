use Rattle.std.proofs.Common.{◌≤◌}
use Rattle.library_tests.proofs.Keys.{AreNewFrom}
use Rattle.library_tests.proofs.elements.held_by.Given as goal

abbrev pub invariant-loop-handle : goal.invariant-loop-handle
invariant-loop-handle l = record {
  new : AreNewFrom l.driver.keys l.handle;
  held : l.held ≤ l.handle;
}
