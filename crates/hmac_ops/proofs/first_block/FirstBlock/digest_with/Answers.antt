use Rattle.hmac_ops.proofs.{Common.List, Common.ap, Common.ap₂, Common.arith, Common.compress, Common.digest_bytes, Common.ℕ, Common.◌∙◌, TwoBlocks.sha256-two_blocks}
use Rattle.hmac_ops.proofs.first_block.FirstBlock.digest_with.Goals as goal

pub returns : goal.returns
returns c = λ block long held.
    c.digest_bytes.ensures
    ∙ ap (λ (h : List ℕ). digest_bytes h 8) (c.compress.ensures ∙ ap₂ compress held.hash_value c.second_block.ensures)
    ∙ sha256-two_blocks block c.args.rest.now long (omega arith)
