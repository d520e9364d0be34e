use Rattle.std.proofs.{Common.Bool, Common.List, Common.[], Common.ap, Common.ap₂, Common.arith, Common.bytes_eq, Common.drop, Common.length, Common.refl, Common.subst, Common.sym, Common.take, Common.ℕ, Common.◌&&◌, Common.◌+◌, Common.◌-◌, Common.◌∙◌, Common.◌≡◌, Math.Seq.take-add}
use Rattle.derivation_states.proofs.{Common.HasSecret, Common.length-take, Common.next_derived, Common.without, Running.length-given, Running.none_taken, Running.some_more, Running.without_none, Running.without_twice}
use Rattle.multipart.proofs.ByteLists.{bytes_eq_append}
use Rattle.derivation_states.proofs.output.OutputState.gives.Goals as goal

pub pieces-init : goal.pieces-init
pieces-init c = record {
  within = omega arith;
  capacity = omega arith;
  holds = λ w r. subst (HasSecret c.args.inputs.now c.args.self.now) (without_none w) r;
  same = λ w r. ap (bytes_eq []) (sym (none_taken c.args.inputs.now c.args.self.now w r));
}

pub pieces-preserved : goal.pieces-preserved
pieces-preserved c = record {
  within = omega arith;
  capacity = omega arith;
  holds = λ w r. subst (HasSecret c.args.inputs.now c.take_piece-count.new.self) (without_twice w c.pieces.compared c.take_piece-count.result) (c.take_piece-count.ensures.holds (without w c.pieces.compared) (c.pieces.invariant.holds w r));
  same = λ w r.
      let before : ℕ = c.pieces.compared in
      let count : ℕ = c.take_piece-count.result in
      let expected : List ℕ = take before c.args.expected.now in
      let given : List ℕ = take (before + count - before) (drop before c.args.expected.now) in
      let whole : before + (before + count - before) ≡ before + count = omega arith in
      let taken : count ≡ c.take_piece-count.new.self.used - (c.take_piece-count.new.self.used - count) = omega arith in
      let piece : List ℕ = take (c.take_piece-count.new.self.used - (c.take_piece-count.new.self.used - count)) (drop (c.take_piece-count.new.self.used - count) c.take_piece-count.new.self.block) in
      let next = c.take_piece-count.ensures.bytes (without w before) (c.pieces.invariant.holds w r) ∙ ap (λ (k : ℕ). take k (drop (c.take_piece-count.new.self.used - count) c.take_piece-count.new.self.block)) taken in
      let long : length expected ≡ length (next_derived w before) = omega (arith, length-take before c.args.expected.now, length-given c.args.inputs.now c.args.self.now w r before) in
      ap₂ (λ (a b : Bool). a && b) (c.pieces.invariant.same w r) c.is_equal-same.ensures
      ∙ sym (bytes_eq_append expected (next_derived w before) given piece long)
      ∙ ap₂ bytes_eq (sym (take-add before (before + count - before) c.args.expected.now) ∙ ap (λ (k : ℕ). take k c.args.expected.now) whole) (some_more c.args.inputs.now c.args.self.now w r before count _ piece refl next);
}
