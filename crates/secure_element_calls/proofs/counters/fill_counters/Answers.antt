use Rattle.std.proofs.{Common.List, Common.ap, Common.arith, Common.length, Common.refl, Common.sym, Common.take, Common.ℕ, Common.◌*◌, Common.◌++◌, Common.◌+◌, Common.◌-◌, Common.◌∙◌, lemmas.Slice.take-put_mid}
use Rattle.secure_element_calls.proofs.{Common.blocks, Common.counter_next, Common.ecb_encrypt, Common.key_stream, Common.length-number_block, Common.length-take, Common.number_block, Common.take_all, CounterBlocks.next_counter}
use Rattle.secure_element_calls.proofs.counters.fill_counters.Goals as goal

pub turns-init : goal.turns-init
unfolding ecb_encrypt key_stream blocks
turns-init c = record { counter = omega (arith, c.ranges.start.fits); blocks = λ e. refl }

pub turns-preserved : goal.turns-preserved
turns-preserved c =
    let n = c.turns.n in
    let block = c.set_number.new.block in
    let front = take-put_mid (16 * n) (16 * n + 16 - 16 * n) c.turns.blocks block (16 * (n + 1)) (omega (arith, ap length c.set_number.ensures, length-number_block c.turns.counter)) (omega arith) in
    record {
      counter = counter_next c.turns.counter c.args.start n c.turns.invariant.counter;
      blocks = λ e.
          next_counter e c.args.start c.turns.counter n (take (16 * n) c.turns.blocks) _ (omega (arith, c.ranges.start.fits)) c.turns.invariant.counter
          (omega (arith, length-take (16 * n) c.turns.blocks))
          (front ∙ ap (λ (l : List ℕ). take (16 * n) c.turns.blocks ++ l) c.set_number.ensures) (c.turns.invariant.blocks e);
    }

pub returns : goal.returns
returns c = λ e.
    ap (ecb_encrypt e) (sym (take_all (16 * c.turns.n) c.turns.blocks (omega arith))) ∙ c.turns.invariant.blocks e
    ∙ ap (key_stream e (number_block c.args.start)) (omega arith)
