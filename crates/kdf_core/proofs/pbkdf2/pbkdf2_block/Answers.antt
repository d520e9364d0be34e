use Rattle.kdf_core.proofs.Common.{List, ap, arith, block_length, drop, drop-replicate, hash_of, hmac, length, length-take, pbkdf2_block, sym, take, ℕ, ◌++◌, ◌+◌, ◌-◌, ◌∙◌, ◌≡◌}
use Rattle.std.specs.Int.{w32, to_be_bytes}
use Rattle.kdf_core.proofs.Turns.{summed, summed-first, summed-next, summed-last, front_copied, xored_front}
use Rattle.kdf_core.proofs.pbkdf2.pbkdf2_block.Goals as goal

pub turns-init : goal.turns-init
unfolding pbkdf2_block
turns-init c =
    let hash = hash_of c.args.which in
    let b : ℕ = block_length c.args.which in
    let k : ℕ = c.first_turn-length.result in
    let password = c.args.password.now in
    let turn : List ℕ = take k c.first_turn-length.new.turn in
    let written : length c.copy_from_slice.new.self ≡ k = omega (arith, c.copy_from_slice.ensures.len, length-take k c.args.out.now) in
    let copied = front_copied c.copy_from_slice.new.self c.args.out.now k 64 written (omega arith) (omega arith) in
    let first = c.first_turn-length.ensures.code c.args.which password c.new-first_key.ensures in
    record {
      sum = ap (λ (s : List ℕ). summed hash b password turn s (c.args.cost - 1)) (copied.0 ∙ c.copy_from_slice.ensures.after)
          ∙ ap (λ (u : List ℕ). summed hash b password u u (c.args.cost - 1)) first ∙ summed-first hash b password (hmac hash b password (c.args.salt.now ++ to_be_bytes w32 c.args.n)) c.args.cost c.requires.cost;
      rest = copied.1;
      zeros = c.first_turn-length.ensures.rest ∙ drop-replicate k 64 0;
      long = copied.2;
    }

pub turns-preserved : goal.turns-preserved
turns-preserved c =
    let which = c.args.which in
    let hash = hash_of which in
    let b : ℕ = block_length which in
    let password = c.args.password.now in
    let k : ℕ = c.first_turn-length.result in
    let now : List ℕ = c.next.new.turn in
    let next : List ℕ = take k now in
    let length_is = c.first_turn-length.ensures.length which password c.new-first_key.ensures in
    let same : c.next.result ≡ k = c.next.ensures.length which password c.new-key.ensures ∙ sym length_is in
    let is_next = ap (λ (n : ℕ). take n now) (sym same) ∙ c.next.ensures.code which password c.new-key.ensures length_is in
    let zeros = ap (λ (n : ℕ). drop n now) (sym same) ∙ c.next.ensures.rest ∙ ap (λ (n : ℕ). drop n c.turns.turn) same ∙ c.turns.invariant.zeros in
    let xored = xored_front c.turns.out now k 64 (omega arith) c.turns.invariant.long (omega arith) zeros in
    record {
      sum = ap (λ (s : List ℕ). summed hash b password next s (c.args.cost - (c.turns.i + 1))) (ap (take k) c.xor_into.ensures ∙ xored.0)
          ∙ summed-next hash b password (take k c.turns.turn) next (take k c.turns.out) c.args.cost c.turns.i (omega arith) is_next
          ∙ c.turns.invariant.sum;
      rest = ap (drop k) c.xor_into.ensures ∙ xored.1 ∙ c.turns.invariant.rest;
      zeros = zeros;
      long = c.xor_into.array_long;
    }

pub returns-clause-block : goal.returns-clause-block
returns-clause-block c =
    let which = c.args.which in
    let k : ℕ = c.first_turn-length.result in
    sym (summed-last (hash_of which) (block_length which) c.args.password.now (take k c.turns.turn) (take k c.turns.out) (c.args.cost - c.turns.i) (omega arith)) ∙ c.turns.invariant.sum
