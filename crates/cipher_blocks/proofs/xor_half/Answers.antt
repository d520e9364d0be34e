use Rattle.cipher_blocks.proofs.{Common.List, Common.ap, Common.to_be_bytes, Common.w64, Common.xor_bytes, Common.ℕ, Common.◌∙◌, BlockNumbers.xor_bytes_high_first}
use Rattle.cipher_blocks.proofs.xor_half.Goals as goal

pub returns : goal.returns
returns c =
    c.set_half.ensures ∙ xor_bytes_high_first 8 c.half_number.result c.args.mask
    ∙ ap (λ (l : List ℕ). xor_bytes l (to_be_bytes w64 c.args.mask)) c.half_number.ensures
