use Rattle.std.proofs.{Common.ap, Common.arith, Common.drop, Common.length, Common.take, Common.ℕ, Common.◌≡◌, Common.refl, Common.rules, Common.subst, Common.sym, Common.◌+◌, Common.◌-◌, Common.◌∙◌, lemmas.Slice.take-put_mid}
use Rattle.derivation_states.proofs.{Common.HasSecret, Common.next_derived, Common.without, Running.length-given, Running.none_taken, Running.some_more, Running.without_none, Running.without_twice}
use Rattle.derivation_states.proofs.output.OutputState.fill.Goals as goal

pub pieces-init : goal.pieces-init
pieces-init c = record {
  within = omega arith;
  capacity = omega arith;
  long = refl;
  holds = λ w r. subst (HasSecret c.args.inputs.now c.args.self.now) (without_none w) r;
  bytes = λ w r. sym (none_taken c.args.inputs.now c.args.self.now w r);
}

pub pieces-preserved : goal.pieces-preserved
pieces-preserved c = record {
  within = omega arith;
  capacity = omega arith;
  long = search rules;
  holds = λ w r. subst (HasSecret c.args.inputs.now c.take_piece-count.new.self) (without_twice w c.pieces.filled c.take_piece-count.result) (c.take_piece-count.ensures.holds (without w c.pieces.filled) (c.pieces.invariant.holds w r));
  bytes = λ w r.
      let filled = c.pieces.filled in
      let count : ℕ = c.take_piece-count.result in
      let o = c.take_piece-count.new.self in
      let piece = c.copy_from_slice.new.self in
      let before = c.pieces.invariant.holds w r in
      let taken : count ≡ o.used - (o.used - count) = omega arith in
      let next : next_derived (without w filled) count ≡ piece = c.take_piece-count.ensures.bytes (without w filled) before ∙ ap (λ (k : ℕ). take k (drop (o.used - count) o.block)) taken ∙ sym c.copy_from_slice.ensures.after in
      take-put_mid filled (filled + count - filled) c.pieces.out piece (filled + count) (omega (arith, ap length next, length-given c.args.inputs.now c.pieces.self (without w filled) before count)) (omega arith)
      ∙ some_more c.args.inputs.now c.args.self.now w r filled count _ piece (c.pieces.invariant.bytes w r) next;
}
