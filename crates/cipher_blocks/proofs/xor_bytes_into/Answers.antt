use Rattle.cipher_blocks.proofs.Common.{ap, arith, drop, xor_bytes, ℕ, ◌∙◌, ◌≡◌}
use Rattle.cipher_blocks.proofs.xor_bytes_into.Goals as goal

pub returns-then-piece-eq16 : goal.returns-then-piece-eq16
returns-then-piece-eq16 c =
    let block = c.args.block.now in
    let start : 0 ≡ c.args.from = omega arith in
    c.xor_into.ensures ∙ ap (xor_bytes c.args.piece.now) (c.number_of.ensures.block ∙ ap (λ (n : ℕ). drop n block) start)
