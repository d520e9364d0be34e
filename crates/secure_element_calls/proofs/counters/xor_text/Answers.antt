use Rattle.std.proofs.Common.{arith, drop, rules, subst, take, ◌*◌, ◌-◌, ◌∙◌, ◌≡◌}
use Rattle.secure_element_calls.proofs.{Common.HoldsHandle, Common.aes_encrypt, Common.block_number, Common.ctr_xor, Common.number_block, Holding.holds_as, Holding.holds_both, Counting.rose_again, Streams.all_done, Streams.next_piece, Streams.none_done}
use Rattle.secure_element_calls.proofs.counters.xor_text.Goals as goal

pub pieces-init : goal.pieces-init
pieces-init g c = record {
  counter = omega (arith, c.number_of-counter.ensures.number, c.number_of-counter.type_inv);
  text = holds_as (g.A.Devices.keys c.args.devices.now) c.args.handle _ _ c.requires.aes (λ key aes. none_done key.bytes (block_number c.args.iv.now) c.args.text.now);
  same = search rules;
  locations = search rules;
  unasked = search rules;
  asked = search rules;
  later = search rules;
}

pub pieces-preserved : goal.pieces-preserved
pieces-preserved g c = record {
  counter = omega (arith, c.pieces.invariant.counter);
  text =
      holds_both (g.A.Devices.keys c.args.devices.now) c.args.handle _ _ _ c.pieces.invariant.text
      (subst (λ keys. HoldsHandle keys c.args.handle (λ key. c.xor_piece.new.piece ≡ ctr_xor (aes_encrypt key.bytes) (number_block c.pieces.counter) (take (c.min-end.result - 256 * c.pieces.n) (drop (256 * c.pieces.n) c.pieces.text))))
      c.pieces.invariant.same c.in_ok-xor_piece.ensures.text)
      (λ key before now.
      next_piece key.bytes (block_number c.args.iv.now) c.pieces.counter c.pieces.n c.min-end.result c.args.text.now c.pieces.text c.xor_piece.new.piece (omega (arith, c.pieces.auto.counter-fits)) c.pieces.invariant.counter
      (omega (arith, c.div_ceil-n-end.ensures)) c.pieces.auto.text c.min-end.ensures before now);
  same = c.xor_piece.ensures.same ∙ c.pieces.invariant.same;
  locations = c.xor_piece.ensures.locations ∙ c.pieces.invariant.locations;
  unasked = λ none. absurd (omega arith);
  asked = λ some. rose_again c.pieces.n _ _ _ c.pieces.invariant.unasked c.pieces.invariant.asked c.in_ok-xor_piece.ensures.served;
  later = omega (arith, c.pieces.invariant.later, c.xor_piece.ensures.cause.later);
}

pub returns-clause-text : goal.returns-clause-text
returns-clause-text g c =
    holds_as (g.A.Devices.keys c.args.devices.now) c.args.handle _ _ c.pieces.invariant.text
    (λ key done. all_done key.bytes c.args.iv.now c.pieces.n c.args.text.now c.pieces.text (omega (arith, c.div_ceil-n-end.ensures)) done)
