use Rattle.aead_streams.proofs.{Common.List, Common.aes_encrypt, Common.ap, Common.arith, Common.drop, Common.length-aes_encrypt, Common.length-take, Common.take, Common.ℕ, Common.◌++◌, Common.◌∙◌, StreamPlaces.piece_is}
use Rattle.aead_streams.proofs.key_stream.KeyStream.xor_part.Goals as goal

pub returns-clause-text : goal.returns-clause-text
returns-clause-text c = λ width start n h.
    let count = c.min-count.result in
    let whole = c.args.piece.now in
    ap (λ (l : List ℕ). l ++ drop count whole)
    (c.xor_bytes_into.ensures ∙ piece_is c.fill.new.self (aes_encrypt c.args.key.now) width start n (take count whole) (length-aes_encrypt c.args.key.now) c.fill.ensures.used (omega (arith, length-take count whole)) (c.fill.ensures.at width start n h))
