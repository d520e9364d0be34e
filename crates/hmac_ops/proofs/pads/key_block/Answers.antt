use Rattle.hmac_ops.proofs.{Common.ap, Common.arith, Common.block_length, Common.zero_padded, Common.hash_of, Common.length, Common.length-hash_of, Common.length_bounds, Common.refl, Common.take, Common.◌∙◌, Common.◌≤◌, Padding.key_block_short, Padding.key_block_long}
use Rattle.hmac_ops.proofs.pads.key_block.Goals as goal

pub returns-then-key-block_length : goal.returns-then-key-block_length
returns-then-key-block_length c =
    let which = c.args.which in
    let key = c.args.key.now in
    let bounds = length_bounds which in
    let long : length (hash_of which key) ≤ block_length which = omega (arith, length-hash_of which key, bounds.0) in
    ap (take (block_length which)) (c.filled-block.ensures ∙ ap (zero_padded 128) c.hash-length.ensures.digest)
    ∙ key_block_long (hash_of which) (block_length which) key _ bounds.1 (omega arith) refl long

pub returns-else-key-block_length : goal.returns-else-key-block_length
returns-else-key-block_length c =
    let which = c.args.which in
    ap (take (block_length which)) c.filled.ensures
    ∙ key_block_short (hash_of which) (block_length which) c.args.key.now (length_bounds which).1 (omega arith)
