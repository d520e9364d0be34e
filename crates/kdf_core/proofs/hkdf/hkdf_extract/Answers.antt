use Rattle.kdf_core.proofs.{Common.[], Common.arith, Common.block_length, Common.hash_length, Common.hash_of, Common.◌∙◌, Common.◌≤◌, Blocks.extract_by_hmac}
use Rattle.hash_ops.proofs.Digests.{length-hash_of, length_bounds}
use Rattle.kdf_core.proofs.hkdf.hkdf_extract.Goals as goal

pub returns-clause-key : goal.returns-clause-key
returns-clause-key c =
    let which = c.args.which in
    let fits : hash_length (hash_of which) ≤ block_length which = omega (arith, length-hash_of which [], (length_bounds which).0) in
    c.hmac.ensures.code ∙ extract_by_hmac (hash_of which) (block_length which) c.args.salt.now c.args.secret.now fits
