use Rattle.key_cells.proofs.{Common.arith, Common.eq-eqb, Common.eqb-true, Common.refl, AllZeros.all_zeros, AllZeros.more_bits}
use Rattle.key_cells.proofs.body.is_zero.Goals as goal

pub loop-byte-preserved : goal.loop-byte-preserved
loop-byte-preserved c = more_bits c.loop-byte.bits _ c.loop-byte.byte-index c.args.bytes.now refl c.loop-byte.invariant

pub returns : goal.returns
returns c =
    let are = all_zeros c.loop-byte.bits c.loop-byte.byte-index c.args.bytes.now (omega arith) c.loop-byte.invariant in
    (λ is. are.0 (eqb-true _ _ is), λ zeros. eq-eqb _ _ (are.1 zeros))
