use Rattle.cipher_blocks.proofs.Common.{add-one, arith, drop, get_or-drop, length-drop, slice_index, sym, xor_bytes_next, ◌+◌, ◌≡◌}
use Rattle.cipher_blocks.proofs.xor_by_byte.Goals as goal

pub bytes-preserved : goal.bytes-preserved
bytes-preserved c =
    let mask = drop c.args.from c.args.block.now in
    let at : slice_index mask c.bytes.i ≡ slice_index c.args.block.now (c.args.from + c.bytes.i) = get_or-drop c.args.from c.args.block.now c.bytes.i 0 in
    rw (add-one, c.bytes.invariant, sym at) (xor_bytes_next c.args.piece.now mask c.bytes.i (omega arith) (omega (arith, length-drop c.args.from c.args.block.now)))
