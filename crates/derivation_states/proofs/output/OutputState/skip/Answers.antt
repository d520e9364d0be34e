use Rattle.std.proofs.Common.{arith, subst, ◌≡◌}
use Rattle.derivation_states.proofs.{Common.HasSecret, Common.without, Running.without_twice}
use Rattle.derivation_states.proofs.output.OutputState.skip.Goals as goal

pub pieces-preserved : goal.pieces-preserved
pieces-preserved c = record {
  within = omega arith;
  capacity = omega arith;
  holds = λ w r. subst (HasSecret c.args.inputs.now c.take_piece-skipped.new.self) (without_twice w c.pieces.skipped c.take_piece-skipped.result) (c.take_piece-skipped.ensures.holds (without w c.pieces.skipped) (c.pieces.invariant.holds w r));
}

pub returns : goal.returns
returns c = λ w r.
    let whole : c.pieces.skipped ≡ c.args.count = omega arith in
    subst (λ n. HasSecret c.args.inputs.now c.pieces.self (without w n)) whole (c.pieces.invariant.holds w r)
