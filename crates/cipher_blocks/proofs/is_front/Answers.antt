use Rattle.cipher_blocks.proofs.{Common.ap, Common.arith, Common.length, Common.length-number_block, Common.length-take, Common.number_block, Common.refl, Common.sym, Common.take, Common.◌∙◌, Common.◌≡◌, FilledBlocks.pieces_told}
use Rattle.cipher_blocks.proofs.is_front.Goals as goal

pub returns : goal.returns
unfolding number_block
returns c =
    let piece = c.args.piece.now in
    let front = take (length piece) c.to_be_bytes.result in
    let long : length piece ≡ length front = omega (arith, length-take (length piece) c.to_be_bytes.result, ap length c.to_be_bytes.ensures, length-number_block c.args.block, c.requires) in
    let told = pieces_told piece front c.filled_number.result c.filled_number-front.result long c.filled_number.ensures.block c.filled_number-front.ensures.block c.filled_number.ensures.number c.filled_number-front.ensures.number _ refl in
    let is : front ≡ take (length piece) (number_block c.args.block) = ap (take (length piece)) c.to_be_bytes.ensures in
    (λ h. told.0 h ∙ is, λ e. told.1 (e ∙ sym is))
