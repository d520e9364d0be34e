use Rattle.aead_gcm.proofs.{Common.ap, Common.ap₂, Common.arith, Common.bit_xor, Common.block_product, Common.numbers_of, Common.ℕ, Common.◌∙◌, GhashSteps.block_taken, GhashSteps.all_taken}
use Rattle.aead_gcm.proofs.hashing.absorb.Goals as goal

pub turns-preserved : goal.turns-preserved
turns-preserved c =
    let h = c.args.running.now.0 in
    let y = c.turns.running.1 in
    let x = c.filled_number.result in
    let key = ap (λ (p : ℕ × ℕ). p.0) c.block.ensures in
    let value = ap (λ (p : ℕ × ℕ). p.1) c.block.ensures ∙ ap (λ (k : ℕ). block_product (bit_xor y x) k) c.turns.invariant.key in
    record {
      key = key ∙ c.turns.invariant.key;
      rest = rw value (block_taken h y x _ c.turns.n c.min-end.result c.args.text.now (omega arith) c.min-end.ensures c.filled_number.ensures.number c.turns.invariant.rest);
    }

pub returns : goal.returns
unfolding numbers_of
returns c = ap₂ (λ (h y : ℕ). (h, y)) c.turns.invariant.key (all_taken c.args.running.now.0 c.turns.running.1 _ _ _ (omega arith) c.turns.invariant.rest)
