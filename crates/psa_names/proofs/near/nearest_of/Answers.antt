use Rattle.std.proofs.Common.{Bor, List, ap, ℕ, ◌∙◌}
use Rattle.std.specs.Option.{option_map}
use Rattle.psa_names.proofs.Nearer.{measured, step_nearer, step_no_nearer}
use Rattle.psa_names.proofs.near.nearest_of.Goals as goal
use Rattle.psa_names.proofs.near.nearest_of.Goals.{else-changes-least, then-changes-least}

pub loop-name-preserved : goal.loop-name-preserved
loop-name-preserved c = elim c.if-changes-least.branch [
  | then-changes-least w ↦
      step_nearer c.args.names.now c.loop-name.name-index _ c.args.text.now c.in_ok-changes.changes c.loop-name.least _ _ _ c.loop-name-test.true
      (measured c.args.text.now c.deref.result.now _ c.in_ok-changes.changes (c.deref.ensures.value ∙ c.in_ok-capitals.ensures) c.in_ok-changes.ensures.value)
      w.if-changes-least.true w.least-is (ap (option_map (λ (name : Bor (List ℕ)). name.now)) w.nearest-is) c.loop-name.invariant
  | else-changes-least w ↦
      step_no_nearer c.args.names.now c.loop-name.name-index _ c.args.text.now c.in_ok-changes.changes c.loop-name.least _ _ _ c.loop-name-test.true
      (measured c.args.text.now c.deref.result.now _ c.in_ok-changes.changes (c.deref.ensures.value ∙ c.in_ok-capitals.ensures) c.in_ok-changes.ensures.value)
      w.if-changes-least.false w.least-is (ap (option_map (λ (name : Bor (List ℕ)). name.now)) w.nearest-is) c.loop-name.invariant
]
