use Rattle.std.proofs.Common.{arith}
use Rattle.library_tests.proofs.{Keys.none_yet, Keys.new_after, elements.held_by.Goals.then-is_ok, elements.held_by.Goals.else-is_ok}
use Rattle.library_tests.proofs.elements.held_by.Goals as goal

pub loop-handle-init : goal.loop-handle-init
loop-handle-init c = record { new = λ q le. none_yet c.args.driver.now.keys q c.requires; held = omega arith }

pub loop-handle-preserved : goal.loop-handle-preserved
loop-handle-preserved c = record {
  new = new_after c.loop-handle.driver.keys c.import_key.new.self.keys c.loop-handle.handle _ c.import_key.result c.import_key.ensures.keys c.loop-handle.invariant.new;
  held = elim c.if-is_ok.branch [
    | then-is_ok w ↦ omega (arith, w.held-is, c.loop-handle.invariant.held)
    | else-is_ok w ↦ omega (arith, w.held-is, c.loop-handle.invariant.held)
  ];
}
