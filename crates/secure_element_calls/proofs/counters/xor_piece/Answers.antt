use Rattle.std.proofs.Common.{ap, arith, ◌∙◌}
use Rattle.secure_element_calls.proofs.{Common.aes_encrypt, Common.ctr_xor, Common.key_stream, Common.number_block, Common.xor_bytes, Holding.holds_as, Holding.on_ok_as}
use Rattle.secure_element_calls.proofs.counters.xor_piece.Goals as goal

pub returns-clause-text : goal.returns-clause-text
unfolding ctr_xor
returns-clause-text g c =
    on_ok_as c.encrypt_blocks-enciphered.result _ _ c.encrypt_blocks-enciphered.ensures.blocks
    (λ told. holds_as (g.A.Devices.keys c.args.devices.now) c.args.handle _ _ told
    (λ key enciphered.
    let e = aes_encrypt key.bytes in
    let iv = number_block c.args.counter in
    c.xor_mask.ensures ∙ ap (xor_bytes c.args.piece.now) (enciphered ∙ c.fill_counters.ensures e ∙ ap (key_stream e iv) (omega (arith, c.div_ceil.ensures)))))
